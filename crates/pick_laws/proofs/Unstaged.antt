-- No file differs from the index that a pick left.
use Rattle.std.proofs.Common.{◌≡◌, ℕ, Bool, true, false, cond, not, ◌&&◌, ◌==◌, List, [], ◌∷◌, filter, map, Option, Some, None, refl, sym, ap, ◌∙◌, arith}
use Rattle.std.specs.Prelude.{is_none}
use Rattle.std.specs.FinMap as held
use Rattle.std.specs.List.{AllByRecursion}
use Rattle.std.specs.Str.{bytes_eq}
use Rattle.std.proofs.lemmas.Bool.{and_parts, both_ways, eqb-true}
use Rattle.std.proofs.lemmas.Slice.Eq.{bytes_eq-Decides}
use Rattle.index_file.specs.Entries.{IsInOrder}
use Rattle.index_file.specs.declared.entry.IndexEntry.{IndexEntry}
use Rattle.seq_base.specs.Modes.{mode_number}
use Rattle.seq_base.specs.PathMaps.{entry_at, same_entry}
use Rattle.seq_base.specs.Words.{Id, Path}
use Rattle.seq_base.specs.World.{World}
use Rattle.seq_base.specs.declared.map.Entry.{Entry}
use Rattle.seq_base.specs.declared.mode.Mode.{Mode}
use Rattle.seq_base.specs.declared.mode.Mode.TheVariants.{File, Exec, Link, Gitlink, Folder}
use Rattle.seq_outside.specs.declared.write.Write.TheVariants.{Remove}
use Rattle.stage_index.specs.Changes.{changed, has_blob, is_changed, is_gitlink}
use Rattle.stage_index.specs.Least.{least}
use Rattle.stage_index.specs.Stages.{Entries, is_merged, map_of, row_of}
use Rattle.stage_index.specs.Switching.{is_dropped, is_kept, is_submodule_at, removals_of}
use Rattle.stage_index.proofs.FirstPassing.{passes_at, rest_begins}
use Rattle.pick_laws.proofs.Switching.{AreAway}

-- ---- what was found

-- where no file differs, none of the entries does
pub each_unchanged : (w : World) (index : List IndexEntry) → IsInOrder index → changed w index ≡ None
    → AllByRecursion (λ e. is_changed w e ≡ false) index
unfolding changed
each_unchanged w [] order none = tt
each_unchanged w (e ∷ es) order none = at (is_changed w e) refl (each_unchanged w es order.1)
  where
    at : (b : Bool) → is_changed w e ≡ b
        → (least (map (λ d. d.path) (filter (is_changed w) es)) ≡ None → AllByRecursion (λ d. is_changed w d ≡ false) es)
        → AllByRecursion (λ d. is_changed w d ≡ false) (e ∷ es)
    at true is others =
        absurd (let some = passes_at (is_changed w) (e ∷ es) (e ∷ es) e (rest_begins (is_changed w) (e ∷ es)) order (omega arith) refl is ∙ none in cc)
    at false is others =
        (is, others (ap (λ (t : Bool). least (map (λ d. d.path) (cond t (e ∷ filter (is_changed w) es) (filter (is_changed w) es)))) (sym is) ∙ none))

pub not_false : (b : Bool) → not b ≡ false → b ≡ true
not_false true e = refl
not_false false e = absurd cc

-- of two tests that do not both hold, the second fails where the first holds
second_fails : (a b : Bool) → a && b ≡ false → a ≡ true → b ≡ false
second_fails true b e on = e
second_fails false b e on = absurd cc

pub first_fails : (a b : Bool) → a && b ≡ false → b ≡ true → a ≡ false
first_fails true b e on = sym on ∙ e
first_fails false b e on = refl

-- an entry that is no submodule has its blob in its file
has_its_blob : (w : World) (d : IndexEntry) → is_changed w d ≡ false → is_gitlink d.mode ≡ false → has_blob (held.get w d.path) d.id ≡ true
has_its_blob w d clean file =
    not_false (has_blob (held.get w d.path) d.id) (second_fails (not (is_gitlink d.mode)) (not (has_blob (held.get w d.path) d.id)) clean (ap not file))

found_blob : (w : World) (index : List IndexEntry) (path : Path) (entry : Entry) → AllByRecursion (λ d. is_changed w d ≡ false) index
    → entry_at (map_of index) path ≡ Some entry → is_gitlink entry.mode ≡ false → has_blob (held.get w path) entry.id ≡ true
found_blob w [] path entry clean is file = absurd cc
found_blob w (d ∷ ds) path entry clean is file = at (is_merged d) (λ more. found_blob w ds path entry clean.1 more file) is
  where
    here : (b : Bool) → bytes_eq d.path path ≡ b → (entry_at (map_of ds) path ≡ Some entry → has_blob (held.get w path) entry.id ≡ true)
        → cond b (Some (record { mode = d.mode; id = d.id })) (entry_at (map_of ds) path) ≡ Some entry → has_blob (held.get w path) entry.id ≡ true
    here true same others is =
        let one : ◌≡◌ {A = Entry} (record { mode = d.mode; id = d.id }) entry = cc in
        let its = has_its_blob w d clean.0 (ap (λ (x : Entry). is_gitlink x.mode) one ∙ file) in
        ap (λ (p : Path). has_blob (held.get w p) entry.id) (sym ((bytes_eq-Decides d.path path).0 same)) ∙ ap (λ (x : Entry). has_blob (held.get w d.path) x.id) (sym one) ∙ its
    here false other others is = others is

    at : (b : Bool) → (entry_at (map_of ds) path ≡ Some entry → has_blob (held.get w path) entry.id ≡ true)
        → entry_at (map row_of (cond b (d ∷ filter is_merged ds) (filter is_merged ds))) path ≡ Some entry
        → has_blob (held.get w path) entry.id ≡ true
    at true others is = here (bytes_eq d.path path) refl others is
    at false others is = others is

-- ---- what is kept

gitlink_number : (mode : Mode) → is_gitlink mode ≡ (mode_number mode == 57344)
gitlink_number File = refl
gitlink_number Exec = refl
gitlink_number Link = refl
gitlink_number Gitlink = refl
gitlink_number Folder = refl

-- a path that the index has alike has its blob
pub kept_blob : (w : World) (index : List IndexEntry) (e : Path × Entry) → AllByRecursion (λ d. is_changed w d ≡ false) index → is_kept index e ≡ true
    → is_gitlink e.1.mode ≡ false → has_blob (held.get w e.0) e.1.id ≡ true
kept_blob w index e clean kept file = at (entry_at (map_of index) e.0) refl kept
  where
    at : (o : Option Entry) → entry_at (map_of index) e.0 ≡ o → same_entry o (Some e.1) ≡ true → has_blob (held.get w e.0) e.1.id ≡ true
    at None is same = absurd cc
    at (Some entry) is same =
        let both = and_parts (mode_number entry.mode == mode_number e.1.mode) (bytes_eq entry.id e.1.id) same in
        let modes = eqb-true (mode_number entry.mode) (mode_number e.1.mode) both.0 in
        let link : is_gitlink entry.mode ≡ false = gitlink_number entry.mode ∙ ap (λ (n : ℕ). n == 57344) modes ∙ sym (gitlink_number e.1.mode) ∙ file in
        ap (λ (i : Id). has_blob (held.get w e.0) i) (sym ((bytes_eq-Decides entry.id e.1.id).0 both.1)) ∙ found_blob w index e.0 entry clean is link

-- a path of the map is not removed
pub all_there : (m : Entries) → AllByRecursion (λ e. is_none (entry_at m e.0) ≡ false) m
all_there [] = tt
all_there (d ∷ ds) = (first, later ds (all_there ds))
  where
    first : is_none (entry_at (d ∷ ds) d.0) ≡ false
    first = ap (λ (t : Bool). is_none (cond t (Some d.1) (entry_at ds d.0))) ((bytes_eq-Decides d.0 d.0).1 refl)

    one : (b : Bool) (q : Path) → is_none (entry_at ds q) ≡ false → is_none (cond b (Some d.1) (entry_at ds q)) ≡ false
    one true q there = refl
    one false q there = there

    later : (rows : Entries) → AllByRecursion (λ e. is_none (entry_at ds e.0) ≡ false) rows
        → AllByRecursion (λ e. is_none (entry_at (d ∷ ds) e.0) ≡ false) rows
    later [] there = tt
    later (r ∷ rows) there = (one (bytes_eq d.0 r.0) r.0 there.0, later rows there.1)

pub not_removed : (q : Path) (from : List IndexEntry) (m : Entries) (index : List IndexEntry) → is_none (entry_at m q) ≡ false
    → AreAway q (removals_of from m index)
not_removed q from m [] there = tt
not_removed q from m (d ∷ ds) there = at (is_dropped from m d) refl (not_removed q from m ds there)
  where
    at : (b : Bool) → is_dropped from m d ≡ b → AreAway q (removals_of from m ds)
        → AreAway q (map (λ e. Remove e.path) (cond b (d ∷ filter (is_dropped from m) ds) (filter (is_dropped from m) ds)))
    at true is others =
        (λ same. both_ways (is_none (entry_at m q)) there (ap (λ (p : Path). is_none (entry_at m p)) same ∙ (and_parts (is_none (entry_at m d.path)) (not (is_submodule_at from d.path)) is).0), others)
    at false is others = others

-- ---- all entries

filter_none : (w : World) (es : List IndexEntry) → AllByRecursion (λ e. is_changed w e ≡ false) es → filter (is_changed w) es ≡ []
filter_none w [] clean = refl
filter_none w (e ∷ es) clean = ap (λ (t : Bool). cond t (e ∷ filter (is_changed w) es) (filter (is_changed w) es)) clean.0 ∙ filter_none w es clean.1

pub none_changed : (w : World) (es : List IndexEntry) → AllByRecursion (λ e. is_changed w e ≡ false) es → changed w es ≡ None
unfolding changed
none_changed w es clean = ap (λ (xs : List IndexEntry). least (map (λ e. e.path) xs)) (filter_none w es clean)

pub unchanged : (w : World) (e : IndexEntry) → (is_gitlink e.mode ≡ false → has_blob (held.get w e.path) e.id ≡ true) → is_changed w e ≡ false
unchanged w e has = at (is_gitlink e.mode) refl
  where
    at : (b : Bool) → is_gitlink e.mode ≡ b → not (is_gitlink e.mode) && not (has_blob (held.get w e.path) e.id) ≡ false
    at true is = rw is refl
    at false is = let blob = has is in rw (is, blob) refl
