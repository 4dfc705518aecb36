use Rattle.std.proofs.Common.{◌≡◌, ◌<◌, ◌+◌, ◌++◌, [], ◌∷◌, length, arith, sym, ◌∙◌, ap, refl}
use Rattle.npa_text.proofs.Steps.{gap_fits, token_fits, scanned_gap, scanned_token, scanned_same, scanned_fault, scanned_end}
use Rattle.npa_text.proofs.Lexings.{answer_right, answer_only}
use Rattle.npa_text.proofs.scan.lex.Goals as goal

pub past-cursor-requires-clause-in_text : goal.past-cursor-requires-clause-in_text
past-cursor-requires-clause-in_text c =
    let fits : c.loop-cursor.cursor.at + c.in-Some.more < length c.args.bytes.now =
    gap_fits _ _ _ c.loop-cursor-test.true (sym c.gap_of.ensures ∙ c.in-Some.is) in
    omega arith

pub loop-cursor-preserved-in-Some : goal.loop-cursor-preserved-in-Some
loop-cursor-preserved-in-Some c =
    scanned_same refl c.past-cursor.ensures
    (scanned_gap _ _ c.loop-cursor.cursor _ c.loop-cursor-test.true (sym c.gap_of.ensures ∙ c.in-Some.is) c.loop-cursor.invariant)

pub token-requires : goal.token-requires
token-requires c =
    let fits : c.loop-cursor.cursor.at + c.in-Some-token_of.more < length c.args.bytes.now =
    token_fits _ _ _ _ c.loop-cursor-test.true (sym c.token_of.ensures ∙ c.in-Some-token_of.is) in
    record { in_text = omega arith }

pub past-cursor-requires-in-loop-cursor-clause-in_text :
    goal.past-cursor-requires-in-loop-cursor-clause-in_text
past-cursor-requires-in-loop-cursor-clause-in_text c =
    let fits : c.loop-cursor.cursor.at + c.in-Some-token_of.more < length c.args.bytes.now =
    token_fits _ _ _ _ c.loop-cursor-test.true (sym c.token_of.ensures ∙ c.in-Some-token_of.is) in
    omega arith

pub loop-cursor-preserved : goal.loop-cursor-preserved
loop-cursor-preserved c =
    let pushed : c.push.new.self ≡ c.loop-cursor.tokens ++ c.token.result ∷ [] = c.in_ok-push.ensures.ok in
    scanned_same (pushed ∙ ap (λ t. c.loop-cursor.tokens ++ t ∷ []) c.token.ensures) c.past-cursor-in-loop-cursor.ensures
    (scanned_token _ _ c.loop-cursor.cursor _ _ c.loop-cursor-test.true (sym c.gap_of.ensures ∙ c.in_default.is)
    (sym c.token_of.ensures ∙ c.in-Some-token_of.is) c.loop-cursor.invariant)

pub returns-in_default-token_of-clause-rule : goal.returns-in_default-token_of-clause-rule
returns-in_default-token_of-clause-rule c =
    answer_right c.args.bytes.now _ (scanned_fault c.args.bytes.now c.loop-cursor.tokens c.loop-cursor.cursor
    c.loop-cursor-test.true (sym c.gap_of.ensures ∙ c.in_default.is) (sym c.token_of.ensures ∙ c.in_default-token_of.is)
    c.loop-cursor.invariant)

pub returns-in_default-token_of-clause-only : goal.returns-in_default-token_of-clause-only
returns-in_default-token_of-clause-only c = λ ts fault.
    answer_only c.args.bytes.now _ ts fault (scanned_fault c.args.bytes.now c.loop-cursor.tokens c.loop-cursor.cursor
    c.loop-cursor-test.true (sym c.gap_of.ensures ∙ c.in_default.is) (sym c.token_of.ensures ∙ c.in_default-token_of.is)
    c.loop-cursor.invariant)

pub returns-clause-rule : goal.returns-clause-rule
returns-clause-rule c =
    answer_right c.args.bytes.now _ (scanned_end c.args.bytes.now c.loop-cursor.tokens c.loop-cursor.cursor
    c.loop-cursor-test.false c.loop-cursor.invariant)

pub returns-clause-only : goal.returns-clause-only
returns-clause-only c = λ ts fault.
    answer_only c.args.bytes.now _ ts fault (scanned_end c.args.bytes.now c.loop-cursor.tokens c.loop-cursor.cursor
    c.loop-cursor-test.false c.loop-cursor.invariant)
