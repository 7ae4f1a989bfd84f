-- What a reset writes stands outside `.git`, but for the index; so each blob can be read as before.
use Rattle.std.proofs.Common.{◌≡◌, inl, inr, ℕ, zero, suc, Bool, true, false, cond, List, [], ◌∷◌, ◌++◌, length, take, drop, Result, Ok, Err, refl, sym, ap, subst, ◌∙◌, arith}
use Rattle.std.specs.Prelude.{All, IfErr, codes, filter, map}
use Rattle.std.specs.Char.{to_ascii_lowercase}
use Rattle.std.specs.FinMap as file
use Rattle.std.specs.List.{AllByRecursion}
use Rattle.std.specs.Ordering.{eq_by_cmp}
use Rattle.std.proofs.lemmas.Bool.{both_ways, false_from_ne_true, or_from}
use Rattle.std.proofs.lemmas.List.{take-append-drop}
use Rattle.std.proofs.lemmas.List.Elements.{All-head}
use Rattle.seq_base.specs.Paths.{IsPath, IsPlainPart, parts}
use Rattle.seq_base.specs.Repository.{object_path}
use Rattle.seq_base.specs.Words.{Id, Path, Text}
use Rattle.seq_base.specs.World.{World, is_below, is_blocked, path_cmp}
use Rattle.seq_base.specs.declared.map.Entry.{Entry}
use Rattle.seq_base.proofs.Below.{behind, below_at}
use Rattle.seq_base.proofs.Places.{parts-behind, some_part}
use Rattle.seq_base.proofs.PlainParts.{path_parts}
use Rattle.seq_base.proofs.Shape.{same_path}
use Rattle.seq_outside.specs.Halts.{◌>>=◌, Denies}
use Rattle.seq_outside.specs.Turns.{Turns, go_on, put_in}
use Rattle.seq_outside.specs.declared.halt.Halt.{Halt}
use Rattle.seq_outside.specs.declared.halt.Halt.TheVariants.{Stops, Fault, Memory}
use Rattle.seq_outside.specs.declared.lack.Lack.{Lack}
use Rattle.seq_outside.specs.declared.lack.Lack.TheVariants.{Way}
use Rattle.seq_outside.specs.Store.{StaysOutside, files_below}
use Rattle.seq_outside.specs.Writes.{is_written}
use Rattle.seq_outside.specs.declared.write.Write.{Write}
use Rattle.seq_outside.specs.declared.write.Write.TheVariants.{Put, Remove}
use Rattle.seq_outside.proofs.ObjectsFirst.{named-append}
use Rattle.object_text.specs.Store.{object_at, oversize_at}
use Rattle.objects.specs.Named.{object_named}
use Rattle.stage_index.specs.Changes.{is_gitlink}
use Rattle.stage_index.specs.Stages.{Entries}
use Rattle.worktree.specs.Blobs.{blob_named}
use Rattle.worktree.specs.Own.{AreOutside, AreOwn, GitStays, IsGitPath, IsOwn}
use Rattle.worktree.specs.Resets.{OnlyWay, IsWay, blob_over, blob_readable, file_above, files_above, in_way, is_file_above, over, removal, row_readable, row_writes, rows_readable}
use Rattle.worktree.specs.Switches.{write_made, writes_made}
use Rattle.worktree.proofs.Owning.{own_none}

abbrev git : Path
git = codes ".git"

abbrev OutOfGit : Path → Type 0
OutOfGit path = is_below git path ≡ false

-- ---- paths outside `.git`

-- a path that begins with the parts of a path does not lead into `.git`
away : (path file : Path) (more : List (List ℕ)) → IsPath path → parts file ≡ parts path ++ more → OutOfGit file
away path file more is split = false_from_ne_true (is_below git file) (λ below.
    let at = behind git file below in
    let front : parts file ≡ git ∷ parts at.0 = ap parts at.1 ∙ parts-behind git at.0 in
    by (parts path) refl (path_parts path is) (sym split ∙ front))
  where
    by : (ps : List (List ℕ)) {rest : List (List ℕ)} → parts path ≡ ps → All IsPlainPart ps → ps ++ more ≡ git ∷ rest → ⊥
    by [] none plain e = absurd (omega (arith, some_part path, ap length none))
    by (a ∷ ps) some plain e =
        let first : a ≡ git = cc in
        (All-head IsPlainPart a ps plain).git (subst (λ (n : List ℕ). map to_ascii_lowercase n ≡ git) (sym first) refl)

pub path_outside : (path : Path) → IsPath path → OutOfGit path
path_outside path is = away path path [] is (sym (nothing_more (parts path)))
  where
    nothing_more : (ps : List (List ℕ)) → ps ++ [] ≡ ps
    nothing_more [] = refl
    nothing_more (p ∷ ps) = ap (λ (qs : List (List ℕ)). p ∷ qs) (nothing_more ps)

below_outside : (path below : Path) → IsPath path → is_below path below ≡ true → OutOfGit below
below_outside path below is h = let at = behind path below h in away path below (parts at.0) is (ap parts at.1 ∙ parts-behind path at.0)

-- a front of a path outside
front_outside : (path : Path) (n : ℕ) → OutOfGit path → OutOfGit (take n path)
front_outside path n out = false_from_ne_true (is_below git (take n path)) (λ below.
    let at = behind git (take n path) below in
    let whole : path ≡ git ++ 47 ∷ (at.0 ++ drop n path) = sym (take-append-drop n path) ∙ ap (λ (front : Path). front ++ drop n path) at.1 in
    both_ways (is_below git path) out (below_at git path (at.0 ++ drop n path, whole)))

-- ---- what makes room

abbrev AllOut : List Path → Type 0
AllOut ps = AllByRecursion OutOfGit ps

out_both : (ps qs : List Path) → AllOut ps → AllOut qs → AllOut (ps ++ qs)
out_both [] qs first second = second
out_both (p ∷ ps) qs first second = (first.0, out_both ps qs first.1 second)

above_out : (w : World) (path : Path) (n : ℕ) → OutOfGit path → AllOut (files_above w path n)
above_out w path zero out = tt
above_out w path (suc n) out = out_both (files_above w path n) (file_above w path n) (above_out w path n out) (at (is_file_above w path n))
  where
    at : (b : Bool) → AllOut (cond b (take n path ∷ []) [])
    at true = (front_outside path n out, tt)
    at false = tt

filtered_out : (path : Path) (files : List Path) → IsPath path → AllOut (filter (is_below path) files)
filtered_out path [] is = tt
filtered_out path (f ∷ fs) is = at (is_below path f) refl (filtered_out path fs is)
  where
    at : (b : Bool) → is_below path f ≡ b → AllOut (filter (is_below path) fs)
        → AllOut (cond b (f ∷ filter (is_below path) fs) (filter (is_below path) fs))
    at true below rest = (below_outside path f is below, rest)
    at false below rest = rest

listed_out : (w : World) (path : Path) → IsPath path → AllOut (files_below w path)
listed_out w [] is = let some = is.some in absurd (omega arith)
listed_out w (b ∷ path) is = filtered_out (b ∷ path) (file.keys w) is

none_at : (p q : Path) → IsGitPath q → OutOfGit p → eq_by_cmp path_cmp q p ≡ false
none_at p q in_git out =
    false_from_ne_true (eq_by_cmp path_cmp q p) (λ same. both_ways (is_below git q) (ap (is_below git) (same_path q p same) ∙ out) in_git.0)

removals_out : (ps : List Path) (q : Path) → IsGitPath q → AllOut ps → is_written (map removal ps) q ≡ false
removals_out [] q in_git out = refl
removals_out (p ∷ ps) q in_git out =
    or_from (eq_by_cmp path_cmp q p) (is_written (map removal ps) q) (none_at p q in_git out.0) (removals_out ps q in_git out.1)

pub over_outside : (w : World) (path : Path) (bytes : Text) (ws : List Write) → IsPath path → ws ≡ over w path bytes → AreOutside ws
over_outside w path bytes ws is made q in_git =
    let out = path_outside path is in
    ap (λ (vs : List Write). is_written vs q) made
    ∙ named-append (map removal (in_way w path)) (Put path bytes ∷ []) q (removals_out (in_way w path) q in_git (out_both (files_above w path (length path)) (files_below w path) (above_out w path (length path) out) (listed_out w path is)))
    (or_from (eq_by_cmp path_cmp q path) false (none_at path q in_git out) refl)

pub none_outside : (ws : List Write) → ws ≡ [] → AreOutside ws
none_outside ws none q in_git = ap (λ (vs : List Write). is_written vs q) none

-- ---- what stays

pub git_same : (old new : World) → new ≡ old → GitStays old new
git_same old new same q in_git = ap (λ (w : World). file.get w q) same

pub git_on : (old mid new : World) → GitStays old mid → GitStays mid new → GitStays old new
git_on old mid new first second q in_git = second q in_git ∙ first q in_git

pub outside_stays : (ws : List Write) (old new : World) → AreOutside ws → StaysOutside (is_written ws) old new → GitStays old new
outside_stays ws old new outside stays q in_git = stays q (outside q in_git)

pub own_stays : (ws : List Write) (old new : World) → AreOwn ws → StaysOutside (is_written ws) old new → GitStays old new
own_stays ws old new own stays q in_git = stays q (own_none ws q own (λ is. no_own is))
  where
    no_own : IsOwn q → ⊥
    no_own (inl index) = in_git.1 index
    no_own (inr is) = both_ways (is_below git q) (path_outside q is) in_git.0

-- ---- objects are read as before

object_in_git : (id : Id) → IsGitPath (object_path id)
object_in_git id = (refl, λ same. absurd cc)

same_blob : (old new : World) (id : Id) → file.get new (object_path id) ≡ file.get old (object_path id) → blob_named new id ≡ blob_named old id
unfolding blob_named object_named object_at oversize_at
same_blob old new id same = rw same refl

same_readable : (old new : World) (e : Path × Entry) → GitStays old new → blob_readable new e ≡ blob_readable old e
unfolding blob_readable
same_readable old new e stays = rw (same_blob old new e.1.id (stays (object_path e.1.id) (object_in_git e.1.id))) refl

pub row_as_before : (old new : World) (e : Path × Entry) → GitStays old new → row_readable new e ≡ row_readable old e
row_as_before old new e stays = rw (same_readable old new e stays) refl

pub rows_as_before : (old new : World) (es : Entries) → GitStays old new → rows_readable new es ≡ rows_readable old es
unfolding rows_readable
rows_as_before old new [] stays = refl
rows_as_before old new (e ∷ es) stays = rw (row_as_before old new e stays, rows_as_before old new es stays) refl

-- the first can be read, and the others
pub rows_first : (w : World) (e : Path × Entry) (es : Entries) → rows_readable w (e ∷ es) ≡ Ok tt
    → (row_readable w e ≡ Ok tt) × (rows_readable w es ≡ Ok tt)
unfolding rows_readable
rows_first w e es is = at (row_readable w e) refl is
  where
    at : (r : Result (Unit {0}) Lack) → row_readable w e ≡ r → (r >>= λ _. rows_readable w es) ≡ Ok tt
        → (row_readable w e ≡ Ok tt) × (rows_readable w es ≡ Ok tt)
    at (Ok tt) first rest = (first, rest)
    at (Err why) first rest = absurd cc

-- ---- why it stops

abbrev Answer : Type 0
Answer = Result (Unit {0}) Lack × World

write_stops : (x : Write) (w new : World) (why : Lack) → write_made x w ≡ (Err why, new) → IsWay why
unfolding write_made put_in
write_stops (Remove path) w new why is = let never : Ok tt ≡ Err why = ap (λ (p : Answer). p.0) is in absurd cc
write_stops (Put path bytes) w new why is = at (is_blocked w path) is
  where
    at : (b : Bool) → cond {A = Answer} b (Err (Way path), w) (Ok tt, file.insert w path bytes) ≡ (Err why, new) → IsWay why
    at true e =
        let same : Err (Way path) ≡ Err why = ap (λ (p : Answer). p.0) e in
        let reason : Way path ≡ why = cc in
        subst IsWay reason tt
    at false e = let never : Ok tt ≡ Err why = ap (λ (p : Answer). p.0) e in absurd cc

writes_stop : (ws : List Write) (w new : World) (why : Lack) → writes_made ws w ≡ (Err why, new) → IsWay why
unfolding writes_made
writes_stop [] w new why is = let never : Ok tt ≡ Err why = ap (λ (p : Answer). p.0) is in absurd cc
writes_stop (x ∷ ws) w new why is = at (write_made x w) refl is (λ v rest. writes_stop ws v new why rest)
  where
    at : (s : Answer) → write_made x w ≡ s → go_on s (λ _. writes_made ws) ≡ (Err why, new)
        → ((v : World) → writes_made ws v ≡ (Err why, new) → IsWay why) → IsWay why
    at (Ok y, v) made rest later = later v rest
    at (Err other, v) made rest later =
        let same : Err other ≡ Err why = ap (λ (p : Answer). p.0) rest in
        let reason : other ≡ why = cc in
        subst IsWay reason (write_stops x w v other made)

pub making_stops : (ws : List Write) (w new : World) (halt : Halt Lack)
    → Turns {X = Unit {0}} {Y = Unit {0}} (λ x. x) (Err halt) (writes_made ws w) new → OnlyWay halt
making_stops ws w new (Stops why) is = writes_stop ws w new why is
making_stops ws w new Fault is = tt
making_stops ws w new Memory is = tt

abbrev nothing : Result (Unit {0}) Lack
nothing = Ok tt

over_denied : (w : World) (e : Path × Entry) (why : Lack) → blob_over w e ≡ Err why → blob_readable w e ≡ Err why
unfolding blob_over blob_readable
over_denied w e why is = at (blob_named w e.1.id) is
  where
    at : (r : Result Text Lack) → (r >>= λ bytes. Ok (over w e.0 bytes)) ≡ Err why → (r >>= λ _. nothing) ≡ Err why
    at (Ok bytes) is = absurd cc
    at (Err other) is = let same : other ≡ why = cc in ap (λ (reason : Lack). Err reason) same

row_denied : (w : World) (e : Path × Entry) (why : Lack) → row_writes w e ≡ Err why → row_readable w e ≡ Ok tt → ⊥
row_denied w e why = at (is_gitlink e.1.mode)
  where
    at : (b : Bool) → cond b (Ok []) (blob_over w e) ≡ Err why → cond b nothing (blob_readable w e) ≡ nothing → ⊥
    at true is readable = absurd cc
    at false is readable = let never : Err why ≡ Ok tt = sym (over_denied w e why is) ∙ readable in absurd cc

pub row_stops : (w : World) (e : Path × Entry) (halt : Halt Lack) → Denies halt (row_writes w e) → row_readable w e ≡ Ok tt → OnlyWay halt
row_stops w e (Stops why) denied readable = absurd (row_denied w e why denied readable)
row_stops w e Fault denied readable = tt
row_stops w e Memory denied readable = tt

pub making_only : (r : Result (Unit {0}) (Halt Lack)) (ws : List Write) (w new : World)
    → Turns {X = Unit {0}} {Y = Unit {0}} (λ x. x) r (writes_made ws w) new → IfErr r OnlyWay
making_only (Ok x) ws w new is = tt
making_only (Err halt) ws w new is = making_stops ws w new halt is
