use Rattle.index_file.specs.Spelling.{Spells}
use Rattle.std.proofs.Common.{List, ℕ, sym, subst}
use Rattle.index_file.proofs.Whole.{text_spells}
use Rattle.index_file.proofs.Written.{one_more_entry, one_more_row, all_rows_are, finished}
use Rattle.index_file.proofs.write.index_text.Goals as goal

pub loop-entry-preserved : goal.loop-entry-preserved
loop-entry-preserved c = record {
  text =
      one_more_entry c.loop-entry.out.items c.put_entry.new.out.items c.args.entries.now c.loop-entry.entry-index c.entry-item.result c.loop-entry-test.true c.entry-item.is c.loop-entry.invariant.text c.in_ok-put_entry.ensures.text;
  rows =
      one_more_row c.args.entries.now c.loop-entry.entry-index c.entry-item.result c.loop-entry-test.true c.entry-item.is c.loop-entry.invariant.rows c.in_ok-put_entry.ensures.row;
}

pub returns : goal.returns
returns c =
    let text = finished c.loop-entry.out.items c.digest-hash.result c.deref.result.now c.extend_from_slice.new.self.items c.args.entries.now c.loop-entry.entry-index c.loop-entry-test.false c.loop-entry.invariant.text
    c.deref.ensures.value c.digest-hash.ensures c.in_ok-extend_from_slice.ensures.items in
    let P : List ℕ → Type 0 = λ x. Spells c.args.entries.now x in
    record {
      text = text;
      spells =
          subst P (sym text) (text_spells c.args.entries.now c.requires (all_rows_are c.args.entries.now c.loop-entry.entry-index c.loop-entry-test.false c.loop-entry.invariant.rows));
    }
