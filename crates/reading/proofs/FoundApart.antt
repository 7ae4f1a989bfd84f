-- What a pick finds is read without the files of a list.
use Rattle.std.proofs.Common.{◌≡◌, List, Result, Ok, refl, ap, ◌∙◌}
use Rattle.std.proofs.Math.Path.{fun_ext}
use Rattle.index_file.specs.declared.entry.IndexEntry.{IndexEntry}
use Rattle.object_text.specs.declared.commit.Commit.{Commit as CommitFields}
use Rattle.objects.specs.Named.{commit_named}
use Rattle.seq_base.specs.PathMaps.{Entries}
use Rattle.seq_base.specs.Words.{Id}
use Rattle.seq_base.specs.World.{World}
use Rattle.seq_model.specs.declared.reason.Reason.{Reason}
use Rattle.seq_outside.specs.Halts.{◌>>=◌, for_reason}
use Rattle.seq_outside.specs.declared.lack.Lack.{Lack}
use Rattle.line_steps.specs.Finding.{Found, found_at, found_on, ours_at}
use Rattle.line_steps.specs.Heads.{index_found}
use Rattle.line_steps.specs.Places.{reason_of}
use Rattle.reading.specs.Apart.{Alike, ReadsApart}
use Rattle.reading.proofs.Apart.{commit-apart, index-apart, ours-apart}

-- what is found, of what is read
abbrev found_with : Result CommitFields Lack → (Id → Result Entries Lack) → Result (List IndexEntry) Reason → Result Found Reason
found_with read maps indexed = do
  commit ← for_reason reason_of read
  ours ← for_reason reason_of (maps commit.tree)
  index ← indexed
  Ok (record { index = index; parents = commit.parents; tree = commit.tree; ours = ours })

found-is : (w : World) (head : Id) → found_at head w ≡ found_with (commit_named w head) (λ tree. ours_at tree w) (index_found w)
unfolding found_at found_on
found-is w head = refl

module _ (a b : World) (alike : Alike a b) (head : Id) where
  maps-apart : ◌≡◌ {A = Id → Result Entries Lack} (λ tree. ours_at tree a) (λ tree. ours_at tree b)
  maps-apart = fun_ext (ours-apart a b alike)

  all-apart : found_with (commit_named a head) (λ tree. ours_at tree a) (index_found a) ≡ found_with (commit_named b head) (λ tree. ours_at tree b) (index_found b)
  all-apart =
      ap (λ (read : Result CommitFields Lack). found_with read (λ tree. ours_at tree a) (index_found a)) (commit-apart a b alike head)
      ∙ ap (λ (maps : Id → Result Entries Lack). found_with (commit_named b head) maps (index_found a)) maps-apart
      ∙ ap (λ (indexed : Result (List IndexEntry) Reason). found_with (commit_named b head) (λ tree. ours_at tree b) indexed) (index-apart a b alike)

pub founds_apart : (head : Id) → ReadsApart (found_at head)
founds_apart head a b alike = rw (found-is a head, found-is b head) (all-apart a b alike head)
