use Rattle.std.proofs.Common.{ap, sym, ◌∙◌, ◌++◌, [], ◌∷◌, List, ℕ, take}
use Rattle.index_file.specs.declared.entry.IndexEntry.{IndexEntry}
use Rattle.index_file.specs.Index.{indexed}
use Rattle.stage_index.proofs.Indexing.{indexed_more}
use Rattle.stage_index.proofs.map.copied.Goals as goal

pub loop-path-preserved : goal.loop-path-preserved
loop-path-preserved c =
    c.in_ok-push.ensures.items
    ∙ ap (λ (e : IndexEntry). c.loop-path.entries.items ++ e ∷ []) c.merged.ensures
    ∙ ap (λ (es : List IndexEntry). es ++ record { path = c.in_ok-copy.field-0; stage = 0; mode = c.in-Some.entry.mode; id = c.in-Some.entry.id } ∷ []) c.loop-path.invariant
    ∙ ap (λ (p : List ℕ). indexed (take c.loop-path.n c.args.map.now) ++ record { path = p; stage = 0; mode = c.in-Some.entry.mode; id = c.in-Some.entry.id } ∷ []) c.in_ok-copy.ensures
    ∙ sym (indexed_more c.args.map.now c.loop-path.n (c.in-Some.path.now, c.in-Some.entry) c.in-Some.ensures)
