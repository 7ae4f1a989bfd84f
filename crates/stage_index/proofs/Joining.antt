-- The map of entries, as far as they joined it.
use Rattle.std.proofs.Common.{◌≡◌, ◌-◌, ◌<◌, Bool, true, false, cond, List, [], ◌∷◌, ◌++◌, append_assoc, length, take, drop, get_or, Option, Some, None, Ok, Err, refl, sym, ap, subst, ◌∙◌, arith}
use Rattle.std.specs.Prelude.{filter, map}
use Rattle.std.specs.List.{AllByRecursion}
use Rattle.std.proofs.lemmas.List.{append-nil}
use Rattle.seq_base.specs.PathMaps.{first_clash, is_less, put}
use Rattle.seq_base.specs.Words.{Path}
use Rattle.seq_base.specs.declared.map.Entry.{Entry}
use Rattle.seq_base.specs.declared.mode.Mode.TheVariants.{Folder}
use Rattle.seq_outside.proofs.Firsts.{first_and_others}
use Rattle.index_file.specs.declared.entry.IndexEntry.{IndexEntry}
use Rattle.index_file.specs.Entries.{IsInOrder, IsStaged}
use Rattle.stage_index.specs.Mapping.{GivesMap, with_entries, with_entry}
use Rattle.stage_index.specs.Stages.{Entries, is_merged, map_of, row_of}
use Rattle.stage_index.specs.declared.fault.StageFault.{StageFault}
use Rattle.stage_index.specs.declared.fault.StageFault.TheVariants.{Unmerged, Clash, Memory}
use Rattle.stage_index.proofs.Orders.{less_back, more_apart}
use Rattle.stage_index.proofs.Staging.{rows_after}
use Rattle.stage_index.proofs.Differences.{AllAfter}

joins : (m more : Entries) (e : IndexEntry) (es : List IndexEntry) → with_entry m e ≡ Ok more → with_entries m (e ∷ es) ≡ with_entries more es
unfolding with_entries
joins m more e es is = rw is refl

pub joined_at : (m more : Entries) (entries rest : List IndexEntry) (e : IndexEntry) → with_entries m rest ≡ with_entries [] entries → 0 < length rest
    → e ≡ get_or rest 0 e → with_entry m e ≡ Ok more
    → with_entries more (take (length rest - 1) (drop 1 rest)) ≡ with_entries [] entries
joined_at m more entries rest e so_far some first is =
    let others = take (length rest - 1) (drop 1 rest) in
    sym (joins m more e others is) ∙ ap (with_entries m) (sym (first_and_others rest e some first)) ∙ so_far

fails : (m : Entries) (e : IndexEntry) (es : List IndexEntry) (fault : StageFault) → with_entry m e ≡ Err fault → with_entries m (e ∷ es) ≡ Err fault
unfolding with_entries
fails m e es fault is = rw is refl

pub refused_at : (m : Entries) (entries rest : List IndexEntry) (e : IndexEntry) (fault : StageFault) → with_entries m rest ≡ with_entries [] entries
    → 0 < length rest → e ≡ get_or rest 0 e
    → GivesMap {X = Entries} (λ x. x) (Err fault) (with_entry m e) → GivesMap {X = Entries} (λ x. x) (Err fault) (with_entries [] entries)
refused_at m entries rest e fault so_far some first gives = at fault gives
  where
    whole : (f : StageFault) → with_entry m e ≡ Err f → with_entries [] entries ≡ Err f
    whole f is = sym so_far ∙ ap (with_entries m) (first_and_others rest e some first) ∙ fails m e (take (length rest - 1) (drop 1 rest)) f is

    at : (f : StageFault) → GivesMap {X = Entries} (λ x. x) (Err f) (with_entry m e)
        → GivesMap {X = Entries} (λ x. x) (Err f) (with_entries [] entries)
    at (Unmerged path) is = whole (Unmerged path) is
    at (Clash path) is = whole (Clash path) is
    at Memory is = tt

no_entries : (rest : List IndexEntry) → length rest ≡ 0 → rest ≡ []
no_entries [] h = refl
no_entries (e ∷ es) h = absurd (omega arith)

pub all_joined : (m : Entries) (entries rest : List IndexEntry) → with_entries m rest ≡ with_entries [] entries → length rest ≡ 0
    → with_entries [] entries ≡ Ok m
unfolding with_entries
all_joined m entries rest so_far none = sym so_far ∙ ap (with_entries m) (no_entries rest none)

-- what an index can hold has no folder
pub no_folders : (es : List IndexEntry) → AllByRecursion IsStaged es → AllByRecursion (λ e. e.mode ≡ Folder → ⊥) es
no_folders [] staged = tt
no_folders (e ∷ es) staged = (staged.0.mode, no_folders es staged.1)

-- ---- of entries in order it is their map

-- each path of the map comes before this one
abbrev AllBefore : Entries → Path → Type 0
AllBefore m path = AllByRecursion (λ r. is_less r.0 path ≡ true) m

put_last : (m : Entries) (path : Path) (entry : Entry) → AllBefore m path → put m path entry ≡ m ++ (path, entry) ∷ []
put_last [] path entry before = refl
put_last (r ∷ m) path entry before =
    let apart = more_apart r.0 path before.0 in
    let later = less_back r.0 path before.0 in
    rw (apart, later) (ap (λ (rows : Entries). r ∷ rows) (put_last m path entry before.1))

before_more : (m : Entries) (path next : Path) (entry : Entry) → AllBefore m next → is_less path next ≡ true
    → AllBefore (m ++ (path, entry) ∷ []) next
before_more [] path next entry before less = (less, tt)
before_more (r ∷ m) path next entry before less = (before.0, before_more m path next entry before.1 less)

-- every merged path that is to come is behind those of the map
abbrev Ahead : Entries → List IndexEntry → Type 0
Ahead m es = AllByRecursion (λ r. AllAfter r.0 (map_of es)) m

ahead_more : (m : Entries) (e : IndexEntry) (es : List IndexEntry) → is_merged e ≡ true → Ahead m (e ∷ es) → (AllBefore m e.path) × Ahead m es
ahead_more [] e es is ahead = (tt, tt)
ahead_more (r ∷ m) e es is ahead =
    let first : AllAfter r.0 (row_of e ∷ map_of es) = subst (λ (t : Bool). AllAfter r.0 (map row_of (cond t (e ∷ filter is_merged es) (filter is_merged es)))) is ahead.0 in
    let rest = ahead_more m e es is ahead.1 in
    ((first.0, rest.0), (first.1, rest.1))

ahead_push : (m : Entries) (e : IndexEntry) (es : List IndexEntry) → Ahead m es → AllAfter e.path (map_of es) → Ahead (m ++ row_of e ∷ []) es
ahead_push [] e es ahead after = (after, tt)
ahead_push (r ∷ m) e es ahead after = (ahead.0, ahead_push m e es ahead.1 after)

unmerged_first : (m : Entries) (e : IndexEntry) (es : List IndexEntry) → is_merged e ≡ false → with_entry m e ≡ Err (Unmerged e.path)
unmerged_first m e es is = rw is refl

clash_first : (m : Entries) (e : IndexEntry) (es : List IndexEntry) (other : Path) → is_merged e ≡ true → first_clash m e.path ≡ Some other
    → with_entry m e ≡ Err (Clash e.path)
clash_first m e es other is clash = rw (is, clash) refl

put_first : (m : Entries) (e : IndexEntry) (es : List IndexEntry) → is_merged e ≡ true → first_clash m e.path ≡ None
    → with_entry m e ≡ Ok (put m e.path (row_of e).1)
put_first m e es is clash = rw (is, clash) refl

in_order_from : (m : Entries) (es : List IndexEntry) (all : Entries) → IsInOrder es → Ahead m es → with_entries m es ≡ Ok all → all ≡ m ++ map_of es
unfolding with_entries
in_order_from m [] all order ahead is = let same : m ≡ all = cc in sym same ∙ sym (append-nil m)
in_order_from m (e ∷ es) all order ahead is =
    at (is_merged e) refl (first_clash m e.path) refl is (λ more rest. in_order_from (m ++ row_of e ∷ []) es all order.1 more rest)
  where
    at : (t : Bool) → is_merged e ≡ t → (c : Option Path) → first_clash m e.path ≡ c → with_entries m (e ∷ es) ≡ Ok all
        → (Ahead (m ++ row_of e ∷ []) es → with_entries (m ++ row_of e ∷ []) es ≡ Ok all → all ≡ (m ++ row_of e ∷ []) ++ map_of es) → all ≡ m ++ map_of (e ∷ es)
    at false unmerged c clash is later =
        let never : Err (Unmerged e.path) ≡ Ok all = sym (fails m e es (Unmerged e.path) (unmerged_first m e es unmerged)) ∙ is in absurd cc
    at true merged (Some other) clash is later =
        let never : Err (Clash e.path) ≡ Ok all = sym (fails m e es (Clash e.path) (clash_first m e es other merged clash)) ∙ is in absurd cc
    at true merged None clash is later =
        let both = ahead_more m e es merged ahead in
        let last = put_last m e.path (row_of e).1 both.0 in
        let rest : with_entries (put m e.path (row_of e).1) es ≡ Ok all = sym (joins m (put m e.path (row_of e).1) e es (put_first m e es merged clash)) ∙ is in
        let row : map_of (e ∷ es) ≡ row_of e ∷ map_of es = ap (λ (t : Bool). map row_of (cond t (e ∷ filter is_merged es) (filter is_merged es))) merged in
        later (ahead_push m e es both.1 (rows_after e es merged order.0)) (ap (λ (rows : Entries). with_entries rows es) (sym last) ∙ rest)
        ∙ append_assoc m (row_of e ∷ []) (map_of es)
        ∙ ap (λ (rows : Entries). m ++ rows) (sym row)

pub in_order_map : (es : List IndexEntry) (all : Entries) → IsInOrder es → with_entries [] es ≡ Ok all → all ≡ map_of es
in_order_map es all order is = in_order_from [] es all order tt is
