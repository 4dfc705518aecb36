-- The first rule that prunes a pattern.
use Rattle.std.proofs.Common.{◌<◌, arith}
use Rattle.npa_sig.specs.declared.protocol.Protocol.{Protocol}
use Rattle.npa_model.specs.declared.pattern.Pattern.{Pattern}
use Rattle.npa_prune.specs.declared.rule.PruneRule.{PruneRule}
use Rattle.npa_prune.specs.declared.rule.PruneRule.TheVariants.{Reducible, Clash, SharedFresh, EarlyFresh}
use Rattle.npa_prune.specs.Pruned.{Prunes, IsPruned, IsFirstRule, rank}

module _ (protocol : Protocol) (g : Pattern) where
  abbrev Rule : PruneRule → Type 0
  Rule rule = Prunes protocol rule g

  pub first_reducible : Rule Reducible → IsFirstRule protocol g Reducible
  first_reducible r = record { prunes = r; first = λ earlier before. let never : ⊥ = omega (arith, before) in absurd never }

  pub first_clash : (Rule Reducible → ⊥) → Rule Clash → IsFirstRule protocol g Clash
  first_clash no_reducible r = record { prunes = r; first = before }
    where
      before : (earlier : PruneRule) → rank earlier < 1 → Rule earlier → ⊥
      before Reducible l p = no_reducible p
      before Clash l p = omega (arith, l)
      before SharedFresh l p = omega (arith, l)
      before EarlyFresh l p = omega (arith, l)

  pub first_shared : (Rule Reducible → ⊥) → (Rule Clash → ⊥) → Rule SharedFresh → IsFirstRule protocol g SharedFresh
  first_shared no_reducible no_clash r = record { prunes = r; first = before }
    where
      before : (earlier : PruneRule) → rank earlier < 2 → Rule earlier → ⊥
      before Reducible l p = no_reducible p
      before Clash l p = no_clash p
      before SharedFresh l p = omega (arith, l)
      before EarlyFresh l p = omega (arith, l)

  pub first_early : (Rule Reducible → ⊥) → (Rule Clash → ⊥) → (Rule SharedFresh → ⊥) → Rule EarlyFresh → IsFirstRule protocol g EarlyFresh
  first_early no_reducible no_clash no_shared r = record { prunes = r; first = before }
    where
      before : (earlier : PruneRule) → rank earlier < 3 → Rule earlier → ⊥
      before Reducible l p = no_reducible p
      before Clash l p = no_clash p
      before SharedFresh l p = no_shared p
      before EarlyFresh l p = omega (arith, l)

  by_rule : (Rule Reducible → ⊥) → (Rule Clash → ⊥) → (Rule SharedFresh → ⊥) → (Rule EarlyFresh → ⊥) → (rule : PruneRule) → Rule rule → ⊥
  by_rule no_reducible no_clash no_shared no_early Reducible p = no_reducible p
  by_rule no_reducible no_clash no_shared no_early Clash p = no_clash p
  by_rule no_reducible no_clash no_shared no_early SharedFresh p = no_shared p
  by_rule no_reducible no_clash no_shared no_early EarlyFresh p = no_early p

  pub none_prunes : (Rule Reducible → ⊥) → (Rule Clash → ⊥) → (Rule SharedFresh → ⊥) → (Rule EarlyFresh → ⊥) → IsPruned protocol g → ⊥
  none_prunes no_reducible no_clash no_shared no_early pruned = by_rule no_reducible no_clash no_shared no_early pruned.0 pruned.1
