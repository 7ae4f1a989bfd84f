-- What an invocation prints: the outcome's name in lower case, with `-` before each later capital, then the inner kind in the
-- same way, then the fields in order, and a line feed.
use Rattle.std.specs.Prelude.{List, [], ◌∷◌, ◌++◌, Option, Some, None, codes}
use Rattle.seq_base.specs.Words.{Id, Path, Text}
use Rattle.seq_model.specs.Fields.{bytes_field, id_field, limit_fields}
use Rattle.seq_model.specs.Refusals.{refusal_name, refusal_fields}
use Rattle.seq_model.specs.StopKinds.{stop_kind_name, stop_kind_fields}
use Rattle.seq_model.specs.UsageFaults.{usage_fault_name, usage_fault_fields}
use Rattle.seq_model.specs.declared.stop.StopKind.{StopKind}
use Rattle.seq_model.specs.declared.stop.StopKind.TheVariants.{Conflict}
use Rattle.seq_model.specs.declared.outcome.Outcome.{Outcome}
use Rattle.seq_model.specs.declared.outcome.Outcome.TheVariants.{Done, Stopped, Usage, Refused, StoreFault, ChildFault, OutputFault, Limit, Memory}

-- where HEAD has no commit
abbrev pub head_field : Option Id → Text
head_field None = codes " unborn"
head_field (Some id) = id_field id

-- a line `U <path>` for each unmerged path
abbrev pub unmerged_lines : List Path → Text
unmerged_lines [] = []
unmerged_lines (path ∷ paths) = (85 ∷ bytes_field path ++ 10 ∷ []) ++ unmerged_lines paths

-- only a conflict lists paths
abbrev pub lines_after : StopKind → List Path → Text
lines_after Conflict paths = unmerged_lines paths
lines_after kind paths = []

-- Memory has none.
abbrev pub report_of : Outcome → Text
report_of (Done head) = codes "done" ++ head_field head ++ 10 ∷ []
report_of (Stopped kind paths) = codes "stopped " ++ stop_kind_name kind ++ stop_kind_fields kind ++ 10 ∷ lines_after kind paths
report_of (Usage fault) = codes "usage " ++ usage_fault_name fault ++ usage_fault_fields fault ++ 10 ∷ []
report_of (Refused refusal) = codes "refused " ++ refusal_name refusal ++ refusal_fields refusal ++ 10 ∷ []
report_of StoreFault = codes "store-fault" ++ 10 ∷ []
report_of ChildFault = codes "child-fault" ++ 10 ∷ []
report_of OutputFault = codes "output-fault" ++ 10 ∷ []
report_of (Limit what number) = codes "limit" ++ limit_fields what number ++ 10 ∷ []
report_of Memory = []
