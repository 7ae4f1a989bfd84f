use Rattle.std.proofs.Common.{ℕ, List, Result, Ok, ap, subst}
use Rattle.grammar.specs.Readers.{◌>>=◌}
use Rattle.grammar.specs.declared.fault.ReadError.{ReadError}
use Rattle.grammar.specs.Gives.{Fails}
use Rattle.grammar.proofs.Top.{read_whole, first_bad, left_within}
use Rattle.object_text.specs.Store.{tagged_from}
use Rattle.object_text.specs.Tags.{IsTag}
use Rattle.object_text.proofs.TagLaws.{named_from, named_reads}
use Rattle.object_text.proofs.tag.parse_tag.Goals as goal

abbrev then_id : Result (List ℕ × List ℕ) ℕ → Result (List ℕ) ℕ
then_id r = r >>= λ x. Ok x.0

pub overflow_sub-result : goal.overflow_sub-result
overflow_sub-result c =
    left_within IsTag named_from named_reads c.args.bytes.now c.in-Err-Stopped.left
    (ap then_id (subst (λ (d : ReadError). Fails d (tagged_from c.args.bytes.now)) c.in-Err-Stopped.field-0-is c.in-Err-Stopped.ensures))

pub returns-in-Ok-clause-read : goal.returns-in-Ok-clause-read
returns-in-Ok-clause-read c = read_whole IsTag named_from named_reads c.args.bytes.now c.in-Ok.found.0 (ap then_id c.in-Ok.ensures)

pub returns-in-Err-Stopped-clause-read : goal.returns-in-Err-Stopped-clause-read
returns-in-Err-Stopped-clause-read c =
    first_bad IsTag named_from named_reads c.args.bytes.now c.in-Err-Stopped.left
    (ap then_id (subst (λ (d : ReadError). Fails d (tagged_from c.args.bytes.now)) c.in-Err-Stopped.field-0-is c.in-Err-Stopped.ensures))
