-- Bytes are read as one thing: the trees of a text, and the first fault of other bytes, are one.
use Rattle.std.proofs.Common.{◌≡◌, inl, inr, ℕ, List, Result, Ok, Err, ap, refl, sym, ◌∙◌, subst}
use Rattle.npa_syntax.specs.declared.node.Node.{Node}
use Rattle.npa_syntax.specs.Languages.{Language}
use Rattle.npa_text.specs.declared.token.Token.{Token}
use Rattle.npa_text.specs.declared.parser.Parsed.{Parsed}
use Rattle.npa_text.specs.declared.fault.TextFault.{TextFault}
use Rattle.npa_text.specs.declared.fault.TextFault.TheVariants.{Syntax, NoMemory}
use Rattle.npa_text.specs.Parses.{IsParse, AnswersParse, AnswersFirstFault, PlacesFirstFault}
use Rattle.npa_reading.specs.Reading.{Gives, Refuses}
use Rattle.npa_reading.specs.Verdicts.{Reader, ReadsAs, stops, parsed, AnswersText, OnlyAnswersText, text_refusal}

module _ {A E : Type 0} (language : Language) (reader : Reader A E) (bytes : List ℕ) (l : Language) (lang : l ≡ language) (parse : Result Parsed TextFault) where
  module _ (found : Parsed) (is : parse ≡ Ok found) (nodes : List Node) (nodes_are : nodes ≡ found.nodes) (answer : Result A E) (told : Gives reader.wanting answer (reader.verdict found.tokens nodes)) where
    given : Gives reader.wanting answer (reader.verdict found.tokens found.nodes)
    given = subst (λ (ns : List Node). Gives reader.wanting answer (reader.verdict found.tokens ns)) nodes_are told

    pub parsed_answer : IsParse l bytes found.tokens found.nodes → AnswersText language reader bytes answer
    parsed_answer of_l = split answer given
      where
        there : ReadsAs language reader bytes (reader.verdict found.tokens found.nodes)
        there = parsed found.tokens found.nodes (subst (λ (x : Language). IsParse x bytes found.tokens found.nodes) lang of_l)

        refused : (e : E) → Refuses reader.wanting e (reader.verdict found.tokens found.nodes) → AnswersText language reader bytes (Err e)
        refused e (inl none) = inl (ap Err none)
        refused e (inr same) = inr (subst (ReadsAs language reader bytes) same there)

        split : (r : Result A E) → Gives reader.wanting r (reader.verdict found.tokens found.nodes) → AnswersText language reader bytes r
        split (Ok x) same = inr (subst (ReadsAs language reader bytes) same there)
        split (Err e) g = refused e g

    pub parsed_only : AnswersParse l bytes parse → AnswersFirstFault l bytes parse → OnlyAnswersText language reader bytes answer
    parsed_only only refuses = λ other. one
      where
        one_parse : AnswersParse language bytes (Ok found)
        one_parse = subst (λ (x : Language). AnswersParse x bytes (Ok found)) lang (subst (AnswersParse l bytes) is only)

        no_fault : AnswersFirstFault language bytes (Ok found)
        no_fault = subst (λ (x : Language). AnswersFirstFault x bytes (Ok found)) lang (subst (AnswersFirstFault l bytes) is refuses)

        one : {other : Result A E} → ReadsAs language reader bytes other → Gives reader.wanting answer other
        one (stops line col fault) = absurd (no_fault.every line col fault)
        one (parsed ts ns p) = subst (λ (x : Parsed). Gives reader.wanting answer (reader.verdict x.tokens x.nodes)) (one_parse.every ts ns p) given

  module _ (fault : TextFault) (is : parse ≡ Err fault) (e : E) (e_is : e ≡ text_refusal reader fault) where
    pub stopped_answer : PlacesFirstFault l bytes parse → AnswersText language reader bytes (Err e)
    stopped_answer places = subst (λ (f : E). AnswersText language reader bytes (Err f)) (sym e_is)
        (at_fault fault (subst (λ (x : Language). PlacesFirstFault {A = Parsed} x bytes (Err fault)) lang (subst (PlacesFirstFault l bytes) is places)))
      where
        at_fault : (f : TextFault) → PlacesFirstFault {A = Parsed} language bytes (Err f) → AnswersText language reader bytes (Err (text_refusal reader f))
        at_fault (Syntax line col) first = inr (stops line col first)
        at_fault NoMemory first = inl refl

    pub stopped_only : AnswersParse l bytes parse → AnswersFirstFault l bytes parse → OnlyAnswersText language reader bytes (Err e)
    stopped_only only refuses = subst (λ (f : E). OnlyAnswersText language reader bytes (Err f)) (sym e_is)
        (λ other. at_fault fault (subst (λ (x : Language). AnswersParse x bytes (Err fault)) lang (subst (AnswersParse l bytes) is only))
        (subst (λ (x : Language). AnswersFirstFault x bytes (Err fault)) lang (subst (AnswersFirstFault l bytes) is refuses)))
      where
        refused : E → Result A E
        refused f = Err f

        same_place : (a b c d : ℕ) → a ≡ c → b ≡ d → refused (reader.stop c d) ≡ refused (reader.stop a b)
        same_place a b c d p q = ap (λ (n : ℕ). refused (reader.stop n d)) (sym p) ∙ ap (λ (n : ℕ). refused (reader.stop a n)) (sym q)

        at_fault : (f : TextFault) → AnswersParse language bytes (Err f) → AnswersFirstFault language bytes (Err f) →
            {other : Result A E} → ReadsAs language reader bytes other → Gives reader.wanting (Err (text_refusal reader f)) other
        at_fault NoMemory one_parse first reads = inl refl
        at_fault (Syntax line col) one_parse first (stops at_line at_col there) = let same = first.every at_line at_col there in inr (same_place line col at_line at_col same.0 same.1)
        at_fault (Syntax line col) one_parse first (parsed ts ns p) = absurd (one_parse.every ts ns p)
