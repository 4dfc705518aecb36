-- The printed lines of a module's checks.
use Rattle.std.specs.Prelude.{ℕ, ◌+◌, List, [], ◌∷◌, ◌++◌, Option, None, Some, Result, Ok, Err, codes, length, slice_get, take}
use Rattle.std.specs.List.{flat_map, sum_by}
use Rattle.std.specs.Option.{option_map_or}
use Rattle.npa_term.specs.declared.term.Var.{Var as Variable}
use Rattle.npa_term.specs.declared.term.Term.{Term}
use Rattle.npa_term.specs.Bound.{applied}
use Rattle.npa_term.specs.Numbering.{numbered, variables_once}
use Rattle.npa_sig.specs.declared.protocol.Protocol.{Protocol}
use Rattle.npa_sig.specs.declared.protocol.Strand.{Strand}
use Rattle.npa_sig.specs.Signature.{Signature}
use Rattle.npa_sig.specs.Printing.{printed, sort_text}
use Rattle.npa_rewrite.specs.Theories.{theory_of}
use Rattle.npa_conv.specs.declared.error.ConvFail.{ConvFail}
use Rattle.npa_conv.specs.declared.error.ConvFail.TheVariants as conv_fail
use Rattle.npa_variants.specs.declared.fault.ReadyFail.{ReadyFail}
use Rattle.npa_variants.specs.declared.fault.ReadyFail.TheVariants as ready_fail
use Rattle.npa_variants.specs.declared.variant.Variant.{Variant}
use Rattle.npa_variants.specs.Ready.{strand_rows}
use Rattle.npa_variants.specs.Rows.{Row}
use Rattle.npa_variants.specs.Search.{Stop}
use Rattle.npa_variants.specs.Strands.{param_count}
use Rattle.npa_model.specs.declared.aim.Aim.{Aim}
use Rattle.npa_close.specs.declared.fail.CheckFail.{CheckFail}
use Rattle.npa_close.specs.declared.fail.CheckFail.TheVariants as fail
use Rattle.npa_module.specs.declared.source.Source.{Source}
use Rattle.npa_outside.specs.Lines.{numbered as with_number, counted}

-- ## Terms of one line

-- The numbers of the variables in a line, from 1 in the order in which they first occur in it.
abbrev pub line_numbers : List Term → List (Variable × Term)
line_numbers ts = numbered 1 (variables_once ts)

-- the instances of terms, with a blank before each
abbrev pub spaced : Signature → List (Variable × Term) → List Term → List ℕ
spaced sig s ts = flat_map (λ t. codes " " ++ printed sig (applied s t)) ts

-- the instances of terms, with a blank between two of them
abbrev pub separated : Signature → List (Variable × Term) → List Term → List ℕ
separated sig s [] = []
separated sig s (t ∷ ts) = printed sig (applied s t) ++ spaced sig s ts

-- terms of one line, with a blank before each
unfoldable pub line_terms : Signature → List Term → List ℕ
line_terms sig ts = spaced sig (line_numbers ts) ts

-- a line of terms, with a blank between two of them
unfoldable pub terms_line : Signature → List Term → List ℕ
terms_line sig ts = separated sig (line_numbers ts) ts ++ codes "\n"

-- ## Sorts

-- the text where a sort has no ground term
abbrev pub refused_inhabited : Signature → ℕ → List ℕ
refused_inhabited sig s = codes "refused inhabited " ++ (sort_text sig s ++ codes "\n")

-- the text where a sort's least ground term has so many symbols
abbrev pub limit_ground : Signature → ℕ → ℕ → List ℕ
limit_ground sig s n = counted (codes "limit ground ") (sort_text sig s) n

-- ## The theory

-- the text where a search for unifiers is given up, and where a term has so many symbols
abbrev pub limit_unifiers : List ℕ
limit_unifiers = counted (codes "limit ") (codes "check unifiers") 4097

abbrev pub limit_symbols : ℕ → List ℕ
limit_symbols n = counted (codes "limit ") (codes "check symbols") n

-- the text where an equation doesn't cancel, by its place from 0
abbrev pub refused_equation : ℕ → List ℕ
refused_equation place = with_number (codes "refused equation ") (place + 1) ++ codes "\n"

-- the text where a term has two normal forms
abbrev pub refused_confluence : Signature → Term → Term → Term → List ℕ
refused_confluence sig from left right = codes "refused confluence" ++ (line_terms sig (from ∷ left ∷ right ∷ []) ++ codes "\n")

-- The text and the status where a theory isn't shown to be convergent; there are none for want of memory.
abbrev pub conv_line : Signature → ConvFail → Option (List ℕ × ℕ)
conv_line sig (conv_fail.Shape place) = Some (refused_equation place, 3)
conv_line sig (conv_fail.SortUp place) = Some (refused_equation place, 3)
conv_line sig (conv_fail.Pair from left right) = Some (refused_confluence sig from left right, 3)
conv_line sig (conv_fail.Unifiers i j) = Some (limit_unifiers, 7)
conv_line sig (conv_fail.Symbols n) = Some (limit_symbols n, 7)
conv_line sig conv_fail.NoMemory = None

-- ## Strands

-- the name of a strand, and the number of its parameters, by its place
abbrev pub strand_name : List Strand → ℕ → List ℕ
strand_name strands place = option_map_or (λ strand. strand.name) (slice_get strands place) []

abbrev pub params_at : List Strand → ℕ → ℕ
params_at strands place = option_map_or param_count (slice_get strands place) 0

-- The lines of variants, each with its first terms, so many.
abbrev pub variant_lines : Signature → ℕ → List Variant → List ℕ
variant_lines sig count list = flat_map (λ v. terms_line sig (take count v.terms)) list

-- the text where a strand has too many variants, these: a line for each, with the values of the parameters
abbrev pub refused_variants : Protocol → ℕ → List Variant → List ℕ
refused_variants protocol place list =
    codes "refused variants " ++ (strand_name protocol.strands place ++ (codes "\n" ++ variant_lines protocol.sig (params_at protocol.strands place) list))

-- the text where a variable doesn't originate in a variant of a strand; both are counted from 1
abbrev pub refused_origination : Protocol → ℕ → ℕ → Variable → List ℕ
refused_origination protocol place variant v =
    codes "refused origination " ++ (strand_name protocol.strands place
    ++ (with_number (codes " ") (variant + 1) ++ (with_number (codes " ?") (v.num + 1) ++ (codes ":" ++ (sort_text protocol.sig v.sort ++ codes "\n")))))

-- The text and the status where a strand has no complete variants that originate; there are none for want
-- of memory.
abbrev pub ready_line : Protocol → ReadyFail → Option (List ℕ × ℕ)
ready_line protocol (ready_fail.Variants place list) = Some (refused_variants protocol place list, 3)
ready_line protocol (ready_fail.Unifiers place) = Some (limit_unifiers, 7)
ready_line protocol (ready_fail.Symbols place n) = Some (limit_symbols n, 7)
ready_line protocol (ready_fail.Origin place variant v) = Some (refused_origination protocol place variant v, 3)
ready_line protocol ready_fail.NoMemory = None

-- ## Aims

-- the name of an aim, by its place
abbrev pub aim_name : List Aim → ℕ → List ℕ
aim_name aims place = option_map_or (λ aim. aim.name) (slice_get aims place) []

-- the text where an aim isn't accepted: a part of its terms, and an equation, counted from 1
abbrev pub refused_aim : Source → ℕ → Term → ℕ → List ℕ
refused_aim source place term equation =
    codes "refused aim " ++ (aim_name source.aims place ++ (line_terms source.protocol.sig (term ∷ []) ++ (with_number (codes " ") (equation + 1) ++ codes "\n")))

-- ## The checks

-- The text and the status where a check of a module fails; there are none for want of memory.
abbrev pub fail_line : Source → CheckFail → Option (List ℕ × ℕ)
fail_line source (fail.Inhabited s) = Some (refused_inhabited source.protocol.sig s, 3)
fail_line source (fail.Ground s n) = Some (limit_ground source.protocol.sig s n, 7)
fail_line source (fail.Conv fault) = conv_line source.protocol.sig fault
fail_line source (fail.Ready fault) = ready_line source.protocol fault
fail_line source (fail.AimForm place term equation) = Some (refused_aim source place term equation, 3)
fail_line source fail.NoMemory = None

-- how many variants a search finds
abbrev pub found_count : Result (List Row) Stop → ℕ
found_count (Ok rows) = length rows
found_count (Err stop) = 0

-- how many variants the strands of a protocol have together
abbrev pub variant_count : Protocol → ℕ
variant_count protocol = sum_by (λ strand. found_count (strand_rows (theory_of protocol) strand)) protocol.strands

-- the text where all checks of a module of this name hold
abbrev pub passed_text : List ℕ → Protocol → List ℕ
passed_text name protocol =
    codes "ok " ++ (name ++ (with_number (codes " strands ") (length protocol.strands) ++ (with_number (codes " variants ") (variant_count protocol) ++ codes "\n")))
