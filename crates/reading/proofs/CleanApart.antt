-- Whether index and files are those of a commit is read without the files of a list.
use Rattle.std.proofs.Common.{◌≡◌, ◌∙◌, ℕ, cond, Bool, true, false, List, [], ◌∷◌, length, codes, filter, Option, Some, None, Result, Ok, Err, refl, ap}
use Rattle.std.proofs.Math.Path.{fun_ext}
use Rattle.std.specs.Prelude.{nat_lt}
use Rattle.std.specs.FinMap as file
use Rattle.index_file.specs.Index.{index_at, index_in}
use Rattle.index_file.specs.declared.entry.IndexEntry.{IndexEntry}
use Rattle.index_file.specs.declared.fault.IndexFault.{IndexFault}
use Rattle.seq_base.specs.PathMaps.{Entries}
use Rattle.seq_base.specs.Words.{Id, Text}
use Rattle.seq_base.specs.World.{World}
use Rattle.seq_model.specs.Basis.{index_limit, unmerged}
use Rattle.seq_model.specs.declared.reason.Reason.TheVariants.{Limit}
use Rattle.seq_model.specs.declared.reason.Reason.{Reason}
use Rattle.seq_outside.specs.Halts.{◌>>=◌, for_reason, stop_found}
use Rattle.seq_outside.specs.declared.limit.LimitWhat.TheVariants.{IndexEntries}
use Rattle.stage_index.specs.Changes.{changed, dirty, is_changed}
use Rattle.line_steps.specs.Heads.{clean_at, index_found, map_found, or_bad_index, unchanged_at}
use Rattle.line_steps.specs.declared.unclean.Unclean.{Unclean}
use Rattle.line_steps.specs.declared.unclean.Unclean.TheVariants.{IsChanged, IsUnread}
use Rattle.line_steps.specs.Places.{reason_of}
use Rattle.reading.proofs.Apart.{indices_apart, maps_apart}
use Rattle.reading.proofs.PlainPaths.{ArePlain, IsPlain, index_plain, path_is_none}
use Rattle.reading.specs.Apart.{Alike, ReadsApart}

-- ---- the index

in_plain : (text : Option Text) → IsPlain (index_in text)
in_plain None = tt
in_plain (Some bytes) = index_plain bytes

few_plain : (b : Bool) (es : List IndexEntry) → ArePlain es → IsPlain {E = Reason} (cond b (Err (Limit IndexEntries (length es))) (Ok es))
few_plain true es plain = tt
few_plain false es plain = plain

read_plain : (r : Result (List IndexEntry) IndexFault) → IsPlain r
    → IsPlain (or_bad_index r >>= λ es. cond (nat_lt index_limit (length es)) (Err (Limit IndexEntries (length es))) (Ok es))
read_plain (Ok es) plain = few_plain (nat_lt index_limit (length es)) es plain
read_plain (Err fault) plain = tt

found_plain : (w : World) → IsPlain (index_found w)
unfolding index_found
found_plain w = read_plain (index_at w) (in_plain (file.get w (codes ".git/index")))

-- ---- index and files

-- what is read, and then what comes of it
abbrev unchanged_with : Result Entries Reason → (Entries → Result (Unit {0}) Unclean) → Result (Unit {0}) Unclean
unchanged_with read next = for_reason IsUnread read >>= next

unchanged-is : (w : World) (index : List IndexEntry) (head : Id)
    → unchanged_at w index head ≡ unchanged_with (map_found w head) (λ ours. stop_found (dirty w index ours) IsChanged)
unfolding unchanged_at
unchanged-is w index head = refl

clean_from : (read : Result (List IndexEntry) Reason) → IsPlain read → (one other : List IndexEntry → Result (Unit {0}) Unclean)
    → ((index : List IndexEntry) → ArePlain index → one index ≡ other index)
    → (for_reason IsUnread read >>= one) ≡ (for_reason IsUnread read >>= other)
clean_from (Ok index) plain one other same = same index plain
clean_from (Err why) plain one other same = refl

module _ (a b : World) (alike : Alike a b) where
  changed-apart : (index : List IndexEntry) → ArePlain index → filter (is_changed a) index ≡ filter (is_changed b) index
  changed-apart [] plain = refl
  changed-apart (e ∷ es) plain = rw (alike e.path (path_is_none e.path plain.0), changed-apart es plain.1) refl

  dirty-apart : (index : List IndexEntry) (ours : Entries) → ArePlain index → dirty a index ours ≡ dirty b index ours
  unfolding changed
  dirty-apart index ours plain = rw (changed-apart index plain) refl

  map-apart : (head : Id) → map_found a head ≡ map_found b head
  unfolding map_found
  map-apart head = ap (for_reason reason_of) (maps_apart head a b alike)

  abbrev after : World → List IndexEntry → Entries → Result (Unit {0}) Unclean
  after w index ours = stop_found (dirty w index ours) IsChanged

  after-apart : (index : List IndexEntry) → ArePlain index → after a index ≡ after b index
  after-apart index plain = fun_ext (λ ours. ap (λ (found : Option (List ℕ)). stop_found found IsChanged) (dirty-apart index ours plain))

  unchanged-apart : (index : List IndexEntry) (head : Id) → ArePlain index → unchanged_at a index head ≡ unchanged_at b index head
  unchanged-apart index head plain =
      rw (unchanged-is a index head, unchanged-is b index head)
      (ap (λ (read : Result Entries Reason). unchanged_with read (after a index)) (map-apart head)
      ∙ ap (λ (next : Entries → Result (Unit {0}) Unclean). unchanged_with (map_found b head) next) (after-apart index plain))

  abbrev merged_then : World → Id → List IndexEntry → Result (Unit {0}) Unclean
  merged_then w head index = stop_found (unmerged index) IsChanged >>= λ _. unchanged_at w index head

  merged-apart : (head : Id) (index : List IndexEntry) → ArePlain index → merged_then a head index ≡ merged_then b head index
  merged-apart head index plain =
      ap (λ (next : Result (Unit {0}) Unclean). stop_found (unmerged index) IsChanged >>= λ _. next) (unchanged-apart index head plain)

  clean-apart : (head : Id) → clean_at a head ≡ clean_at b head
  unfolding clean_at
  clean-apart head =
      rw (indices_apart a b alike) (clean_from (index_found b) (found_plain b) (merged_then a head) (merged_then b head) (merged-apart head))

-- whether they are those of a commit
pub cleans_apart : (head : Id) → ReadsApart (λ w. clean_at w head)
cleans_apart head a b alike = clean-apart a b alike head
