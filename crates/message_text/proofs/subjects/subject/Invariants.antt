use Rattle.std.proofs.Common.{◌≡◌, ◌++◌}
use Rattle.message_text.specs.Paragraphs.{subject}
use Rattle.message_text.proofs.SubjectLemmas.{subject_from}
use Rattle.message_text.proofs.subjects.subject.Given as goal

abbrev pub invariant-loop-line : goal.invariant-loop-line
invariant-loop-line l = l.joined.items ++ subject_from l.has_begun l.line-iterator ≡ subject l.fn.text
