-- The printed lines of a run's replay.
use Rattle.std.specs.Prelude.{ℕ, List, [], ◌++◌, Option, None, Some, codes, slice_get}
use Rattle.std.specs.Option.{option_map_or}
use Rattle.npa_sig.specs.declared.protocol.Protocol.{Protocol}
use Rattle.npa_sig.specs.Printing.{printed}
use Rattle.npa_model.specs.declared.run.Run.{Run}
use Rattle.npa_model.specs.declared.run.Cause.{Cause}
use Rattle.npa_model.specs.declared.run.Cause.TheVariants as cause
use Rattle.npa_replay.specs.declared.answer.Replay.{Replay}
use Rattle.npa_replay.specs.declared.answer.Replay.TheVariants as replay
use Rattle.npa_outside.specs.Lines.{numbered, at_place, at_word}
use Rattle.npa_run_text.specs.declared.fault.RunTextFail.{RunTextFail}
use Rattle.npa_run_text.specs.declared.fault.RunTextFail.TheVariants as run_fail
use Rattle.npa_run_text.specs.RunTexts.{params_at}

-- ## A run text that is refused; there is no line for want of memory

abbrev pub invalid : RunTextFail → Option (List ℕ)
invalid (run_fail.Syntax line col) = Some (at_place (codes "invalid syntax ") line col)
invalid (run_fail.Name name line col) = Some (at_word (codes "invalid name ") name line col)
invalid (run_fail.Sort name line col) = Some (at_word (codes "invalid sort ") name line col)
invalid run_fail.NoMemory = None

-- ## What comes of a run

-- the name of a parameter of an instance, by its place
abbrev pub param_name : Protocol → Run → ℕ → ℕ → List ℕ
param_name protocol run k p = option_map_or (λ instance. option_map_or (λ name. name) (slice_get (params_at protocol instance.strand) p) []) (slice_get run.instances k) []

-- a word, the number of an instance and the name of its parameter
abbrev pub at_param : Protocol → Run → List ℕ → ℕ → ℕ → List ℕ
at_param protocol run word k p = numbered word k ++ (codes " " ++ param_name protocol run k p)

abbrev pub cause_text : Protocol → Run → Cause → List ℕ
cause_text protocol run (cause.Params k) = numbered (codes "params ") k
cause_text protocol run (cause.Sort k p) = at_param protocol run (codes "sort ") k p
cause_text protocol run (cause.Normal k p) = at_param protocol run (codes "normal ") k p
cause_text protocol run (cause.Twice n) = numbered (codes "twice #") n
cause_text protocol run (cause.Instance k) = numbered (codes "instance ") k
cause_text protocol run (cause.Ended k) = numbered (codes "ended ") k
cause_text protocol run (cause.Unsent t) = codes "unsent " ++ printed protocol.sig t

-- the text of a replay's answer
abbrev pub answer_text : Protocol → Run → Replay → List ℕ
answer_text protocol run replay.Reaches = codes "reaches\n"
answer_text protocol run (replay.Stops step why) = numbered (codes "stops ") step ++ (codes " " ++ (cause_text protocol run why ++ codes "\n"))
answer_text protocol run (replay.Misses part) = numbered (codes "misses part ") part ++ codes "\n"

-- 0 where the run reaches the aim, else 9
abbrev pub answer_status : Replay → ℕ
answer_status replay.Reaches = 0
answer_status (replay.Stops step why) = 9
answer_status (replay.Misses part) = 9
