use Rattle.std.proofs.Common.{ℕ, List, sym, ◌∙◌, ap}
use Rattle.seq_base.specs.PathMaps.{first_clash}
use Rattle.seq_base.specs.declared.map.Entry.{Entry}
use Rattle.seq_base.proofs.Maps.{put_stays}
use Rattle.seq_base.proofs.map.PathMap.insert.Goals as goal
use Rattle.seq_base.proofs.map.PathMap.insert.Goals.{in-Ok-put_entry, in-Err-put_entry}

pub invariant_of-self : goal.invariant_of-self
invariant_of-self c =
    let none = ap (λ (es : List (List ℕ × Entry)). first_clash es c.args.path) (sym c.deref.ensures.value) ∙ c.in_default.ensures in
    elim c.match-put_entry.branch [
      | in-Ok-put_entry w ↦ rw w.in-Ok-put_entry.ensures.ok (put_stays c.args.path c.args.entry c.self.inside.entries.items c.self.invariant c.requires none)
      | in-Err-put_entry w ↦ rw w.in-Err-put_entry.ensures.err c.self.invariant
    ]
