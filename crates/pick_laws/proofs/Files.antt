-- The files that a switch of index and files leaves.
use Rattle.std.proofs.Common.{◌≡◌, ◌≢◌, Bool, true, false, cond, List, [], ◌∷◌, ◌++◌, filter, Some, Ok, refl, sym, ap, subst, ◌∙◌}
use Rattle.std.specs.FinMap as held
use Rattle.std.specs.List.{AllByRecursion}
use Rattle.std.proofs.lemmas.Bool.{both_ways}
use Rattle.seq_base.specs.PathMaps.{IsAscending, is_less}
use Rattle.seq_base.specs.Words.{Path, Text}
use Rattle.seq_base.specs.World.{World}
use Rattle.seq_base.specs.declared.map.Entry.{Entry}
use Rattle.seq_outside.specs.Turns.{go_on, put_in}
use Rattle.seq_outside.specs.declared.write.Write.{Write}
use Rattle.seq_outside.specs.declared.write.Write.TheVariants.{Put}
use Rattle.stage_index.specs.Stages.{Entries}
use Rattle.stage_index.proofs.Orders.{not_less_itself}
use Rattle.worktree.specs.Blobs.{blob_named}
use Rattle.worktree.specs.Switches.{write_made, writes_made}
use Rattle.worktree.specs.Writes.{blob_writes}
use Rattle.pick_laws.proofs.Turning.{bound, put_here, put_there, was_put}
use Rattle.pick_laws.proofs.Blobs.{no_blobs, one_blob}
use Rattle.pick_laws.proofs.Switching.{AreAway, writes_away}

-- a file that was to be written has the blob's bytes, and any other is as it was
pub record FileIs (w u v : World) (test : Path × Entry → Bool) (e : Path × Entry) : Type 0 where
  pub written : test e ≡ true → (bytes : Text) × (blob_named w e.1.id ≡ Ok bytes) × (held.get v e.0 ≡ Some bytes)
  pub kept : test e ≡ false → held.get v e.0 ≡ held.get u e.0

abbrev ComesAfter : Path → Entries → Type 0
ComesAfter path = AllByRecursion (λ d. is_less path d.0 ≡ true)

less_other : (p q : Path) → is_less p q ≡ true → q ≢ p
less_other p q less e = both_ways (is_less p p) (not_less_itself p) (ap (is_less p) (sym e) ∙ less)

-- the blobs of later paths are written elsewhere
later_away : (path : Path) (w : World) (test : Path × Entry → Bool) (rows : Entries) (xs : List Write) → ComesAfter path rows
    → blob_writes w (filter test rows) ≡ Ok xs → AreAway path xs
later_away path w test [] xs after is = subst (AreAway path) (sym (no_blobs w xs is)) tt
later_away path w test (e ∷ rows) xs after is = at (test e) (λ ys more. later_away path w test rows ys after.1 more) is
  where
    at : (b : Bool) → ((ys : List Write) → blob_writes w (filter test rows) ≡ Ok ys → AreAway path ys)
        → blob_writes w (cond b (e ∷ filter test rows) (filter test rows)) ≡ Ok xs → AreAway path xs
    at true others is =
        let one = one_blob w e (filter test rows) xs is in
        subst (AreAway path) (sym one.all) ((λ same. less_other path e.0 after.0 (sym same)), others one.others one.more)
    at false others is = others xs is

-- what is as it was behind one more file that was written
weaken : (w u u' v : World) (test : Path × Entry → Bool) (path : Path) (rows : Entries) → ((q : Path) → q ≢ path → held.get u' q ≡ held.get u q)
    → ComesAfter path rows → AllByRecursion (FileIs w u' v test) rows → AllByRecursion (FileIs w u v test) rows
weaken w u u' v test path [] same after files = tt
weaken w u u' v test path (e ∷ rows) same after files = (
  record { written = files.0.written; kept = λ off. files.0.kept off ∙ same e.0 (less_other path e.0 after.0) },
  weaken w u u' v test path rows same after.1 files.1,
)

pub files_are : (w u v : World) (test : Path × Entry → Bool) (rows : Entries) (xs : List Write) → IsAscending rows
    → blob_writes w (filter test rows) ≡ Ok xs → writes_made xs u ≡ (Ok tt, v) → AllByRecursion (FileIs w u v test) rows
unfolding writes_made write_made
files_are w u v test [] xs order is made = tt
files_are w u v test (e ∷ rows) xs order is made = at (test e) refl (λ mid ys more writes. files_are w mid v test rows ys order.1 more writes) is
  where
    at : (b : Bool) → test e ≡ b
        → ((mid : World) (ys : List Write) → blob_writes w (filter test rows) ≡ Ok ys → writes_made ys mid ≡ (Ok tt, v) → AllByRecursion (FileIs w mid v test) rows)
        → blob_writes w (cond b (e ∷ filter test rows) (filter test rows)) ≡ Ok xs → AllByRecursion (FileIs w u v test) (e ∷ rows)
    at true on others is =
        let one = one_blob w e (filter test rows) xs is in
        let whole : writes_made (Put e.0 one.bytes ∷ one.others) u ≡ (Ok tt, v) = subst (λ (ys : List Write). writes_made ys u ≡ (Ok tt, v)) one.all made in
        let step = bound (put_in e.0 one.bytes) (λ _. writes_made one.others) u tt v whole in
        let put = was_put e.0 one.bytes u step.between step.first in
        let away = later_away e.0 w test rows one.others order.0 one.more in
        let here : held.get v e.0 ≡ Some one.bytes = writes_away one.others step.between v e.0 step.then away ∙ ap (λ (x : World). held.get x e.0) put ∙ put_here u e.0 one.bytes in (
          record { written = λ _. (one.bytes, one.blob, here); kept = λ off. absurd (both_ways (test e) off on) },
          weaken w u step.between v test e.0 rows (λ q other. ap (λ (x : World). held.get x q) put ∙ put_there u e.0 one.bytes q other) order.0 (others step.between one.others one.more step.then),
        )
    at false off others is =
        let away = later_away e.0 w test rows xs order.0 is in (
          record { written = λ on. absurd (both_ways (test e) off on); kept = λ _. writes_away xs u v e.0 made away },
          others u xs is made,
        )

-- some writes, and then others
pub record Halfway (xs ys : List Write) (u v : World) : Type 0 where
  pub mid : World
  pub first : writes_made xs u ≡ (Ok tt, mid)
  pub then : writes_made ys mid ≡ (Ok tt, v)

pub halfway : (xs ys : List Write) (u v : World) → writes_made (xs ++ ys) u ≡ (Ok tt, v) → Halfway xs ys u v
unfolding writes_made
halfway [] ys u v made = record { mid = u; first = refl; then = made }
halfway (x ∷ xs) ys u v made =
    let one = bound (write_made x) (λ _. writes_made (xs ++ ys)) u tt v made in
    let more = halfway xs ys one.between v one.then in
    record { mid = more.mid; first = ap (λ r. go_on r (λ _. writes_made xs)) one.first ∙ more.first; then = more.then }
