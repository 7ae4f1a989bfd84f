-- The commit that is found behind tags is the one that the objects of a store have there.
use Rattle.std.proofs.Common.{◌≡◌, ℕ, zero, suc, ◌≤◌, Bool, true, false, List, length, Option, Some, None, Result, Ok, Err, refl, sym, ap, ◌∙◌, arith}
use Rattle.std.specs.Prelude.{nat_lt, option_and_then}
use Rattle.std.proofs.lemmas.Bool.Decides.{nat_tests}
use Rattle.seq_base.specs.World.{World}
use Rattle.seq_outside.specs.Halts.{◌>>=◌, for_reason, or_stop, stop_if}
use Rattle.seq_outside.specs.declared.lack.Lack.{Lack}
use Rattle.seq_outside.specs.declared.lack.Lack.TheVariants as lack
use Rattle.seq_outside.specs.declared.limit.LimitWhat.TheVariants.{Parents}
use Rattle.object_text.specs.Store.{commit_at, commit_if, commit_of, commit_within, named_of, object_at, oversize_at}
use Rattle.object_text.specs.declared.commit.Commit.{Commit as CommitFields}
use Rattle.object_text.specs.declared.object.Kind.{Kind}
use Rattle.object_text.specs.declared.object.Kind.TheVariants.{Blob, Tree, Commit, Tag}
use Rattle.object_text.specs.declared.object.Object.{Object}
use Rattle.objects.specs.Named.{commit_spelled, no_object, object_named}
use Rattle.rev_names.specs.Commits.{commit_or_behind, found_within, spelled_at, tagged}
use Rattle.rev_names.specs.Faults.{bad_object}
use Rattle.rev_names.specs.Laws.{IsFound}
use Rattle.rev_names.specs.declared.commit.FoundCommit.{FoundCommit}
use Rattle.rev_names.specs.declared.fault.RevFault.{RevFault}
use Rattle.rev_names.specs.declared.fault.RevFault.TheVariants.{NotACommit, BadObject}

abbrev Read : Type 0
Read = Result FoundCommit RevFault

pub ok_inj : {X E : Type 0} {a b : X} → ◌≡◌ {A = Result X E} (Ok a) (Ok b) → a ≡ b
ok_inj e = cc

-- ---- a commit

-- what is found where a commit is read
abbrev pub found_of : List ℕ → Result CommitFields Lack → Read
found_of id r = for_reason bad_object r >>= λ commit. Ok (record { id = id; commit = commit })

abbrev few : CommitFields → Bool → Result CommitFields Lack
few c many = stop_if many (lack.Limit Parents (length c.parents)) >>= λ _. Ok c

few_to : (id : List ℕ) (c : CommitFields) (many : Bool) (f : FoundCommit) → found_of id (few c many) ≡ Ok f → c ≡ f.commit
few_to id c true f e = absurd cc
few_to id c false f e = ap (λ (found : FoundCommit). found.commit) (ok_inj e)

spelled_opened : (id content : List ℕ)
    → spelled_at id content ≡ found_of id (or_stop (commit_of content) (lack.Object id) >>= λ c. few c (nat_lt 16 (length c.parents)))
spelled_opened id content = unfold spelled_at in unfold commit_spelled in refl

spelled_to_at : (id content : List ℕ) (o : Option CommitFields) (f : FoundCommit) → commit_of content ≡ o
    → found_of id (or_stop o (lack.Object id) >>= λ c. few c (nat_lt 16 (length c.parents))) ≡ Ok f → commit_of content ≡ Some f.commit
spelled_to_at id content (Some c) f is e = is ∙ ap Some (few_to id c (nat_lt 16 (length c.parents)) f e)
spelled_to_at id content None f is e = absurd cc

spelled_to : (id content : List ℕ) (f : FoundCommit) → spelled_at id content ≡ Ok f → commit_of content ≡ Some f.commit
spelled_to id content f e = spelled_to_at id content (commit_of content) f refl (sym (spelled_opened id content) ∙ e)

pub spelled_from : (id content : List ℕ) (c : CommitFields) → commit_of content ≡ Some c → length c.parents ≤ 16
    → spelled_at id content ≡ Ok (record { id = id; commit = c })
spelled_from id content c is some =
    let small : nat_lt 16 (length c.parents) ≡ false = grind (arith, nat_tests) in
    spelled_opened id content ∙ rw (is, small) refl

-- ---- tags

tagged_to_at : (id : List ℕ) (o : Option (List ℕ)) (on : List ℕ → Read) (next : List ℕ → Option CommitFields) (f : FoundCommit)
    → ((named : List ℕ) (found : FoundCommit) → on named ≡ Ok found → next named ≡ Some found.commit) → (or_stop o (BadObject id) >>= on) ≡ Ok f → option_and_then next o ≡ Some f.commit
tagged_to_at id (Some named) on next f each e = each named f e
tagged_to_at id None on next f each e = absurd cc

kind_to : (id : List ℕ) (kind : Kind) (content : List ℕ) (on : List ℕ → Read) (next : List ℕ → Option CommitFields) (f : FoundCommit)
    → ((named : List ℕ) (found : FoundCommit) → on named ≡ Ok found → next named ≡ Some found.commit) → commit_or_behind on id kind content ≡ Ok f → commit_if next kind content ≡ Some f.commit
kind_to id Commit content on next f each e = spelled_to id content f e
kind_to id Tag content on next f each e = tagged_to_at id (named_of content) on next f each (unfold tagged in e)
kind_to id Blob content on next f each e = absurd cc
kind_to id Tree content on next f each e = absurd cc

object_to : (id : List ℕ) (o : Option Object) (size : Option ℕ) (on : List ℕ → Read) (next : List ℕ → Option CommitFields) (f : FoundCommit)
    → ((named : List ℕ) (found : FoundCommit) → on named ≡ Ok found → next named ≡ Some found.commit)
    → (for_reason bad_object (or_stop o (no_object id size)) >>= λ object. commit_or_behind on id object.kind object.bytes) ≡ Ok f
    → option_and_then (λ object. commit_if next object.kind object.bytes) o ≡ Some f.commit
object_to id (Some object) size on next f each e = kind_to id object.kind object.bytes on next f each e
object_to id None size on next f each e = absurd cc

abbrev on_object : World → List ℕ → (List ℕ → Read) → Read
on_object w id on =
    for_reason bad_object (or_stop (object_at w id) (no_object id (oversize_at w id))) >>= λ object. commit_or_behind on id object.kind object.bytes

abbrev next_object : World → List ℕ → (List ℕ → Option CommitFields) → Option CommitFields
next_object w id next = option_and_then (λ object. commit_if next object.kind object.bytes) (object_at w id)

found_last : (w : World) (id : List ℕ) → found_within zero w id ≡ on_object w id (λ _. Err NotACommit)
found_last w id = unfold found_within in unfold object_named in refl

found_more : (n : ℕ) (w : World) (id : List ℕ) → found_within (suc n) w id ≡ on_object w id (found_within n w)
found_more n w id = unfold found_within in unfold object_named in refl

commit_last : (w : World) (id : List ℕ) → commit_within zero w id ≡ next_object w id (λ _. None)
commit_last w id = unfold commit_within in refl

commit_more : (n : ℕ) (w : World) (id : List ℕ) → commit_within (suc n) w id ≡ next_object w id (commit_within n w)
commit_more n w id = unfold commit_within in refl

pub found_to : (n : ℕ) (w : World) (id : List ℕ) (f : FoundCommit) → found_within n w id ≡ Ok f → commit_within n w id ≡ Some f.commit
found_to zero w id f e =
    commit_last w id
    ∙ object_to id (object_at w id) (oversize_at w id) (λ _. Err NotACommit) (λ _. None) f (λ named found k. absurd cc) (sym (found_last w id) ∙ e)
found_to (suc n) w id f e =
    commit_more n w id
    ∙ object_to id (object_at w id) (oversize_at w id) (found_within n w) (commit_within n w) f (λ named found k. found_to n w named found k) (sym (found_more n w id) ∙ e)

-- ---- and back

abbrev Leads : Read → CommitFields → Type 0
Leads read c = (found : FoundCommit) × (read ≡ Ok found) × (found.commit ≡ c)

tagged_from : (id : List ℕ) (o : Option (List ℕ)) (on : List ℕ → Read) (next : List ℕ → Option CommitFields) (c : CommitFields)
    → ((named : List ℕ) → next named ≡ Some c → Leads (on named) c) → option_and_then next o ≡ Some c → Leads (or_stop o (BadObject id) >>= on) c
tagged_from id (Some named) on next c each e = each named e
tagged_from id None on next c each e = absurd cc

kind_from : (id : List ℕ) (kind : Kind) (content : List ℕ) (on : List ℕ → Read) (next : List ℕ → Option CommitFields) (c : CommitFields)
    → length c.parents ≤ 16
    → ((named : List ℕ) → next named ≡ Some c → Leads (on named) c) → commit_if next kind content ≡ Some c → Leads (commit_or_behind on id kind content) c
kind_from id Commit content on next c some each e = (record { id = id; commit = c }, spelled_from id content c e some, refl)
kind_from id Tag content on next c some each e = unfold tagged in tagged_from id (named_of content) on next c each e
kind_from id Blob content on next c some each e = absurd cc
kind_from id Tree content on next c some each e = absurd cc

object_from : (id : List ℕ) (o : Option Object) (size : Option ℕ) (on : List ℕ → Read) (next : List ℕ → Option CommitFields) (c : CommitFields)
    → length c.parents ≤ 16
    → ((named : List ℕ) → next named ≡ Some c → Leads (on named) c) → option_and_then (λ object. commit_if next object.kind object.bytes) o ≡ Some c
    → Leads (for_reason bad_object (or_stop o (no_object id size)) >>= λ object. commit_or_behind on id object.kind object.bytes) c
object_from id (Some object) size on next c some each e = kind_from id object.kind object.bytes on next c some each e
object_from id None size on next c some each e = absurd cc

opened : (read other : Read) (c : CommitFields) → read ≡ other → Leads other c → Leads read c
opened read other c is leads = (leads.0, is ∙ leads.1, leads.2)

pub found_from : (n : ℕ) (w : World) (id : List ℕ) (c : CommitFields) → length c.parents ≤ 16 → commit_within n w id ≡ Some c
    → Leads (found_within n w id) c
found_from zero w id c some e =
    opened (found_within zero w id) (on_object w id (λ _. Err NotACommit)) c (found_last w id)
    (object_from id (object_at w id) (oversize_at w id) (λ _. Err NotACommit) (λ _. None) c some (λ named k. absurd cc) (sym (commit_last w id) ∙ e))
found_from (suc n) w id c some e =
    opened (found_within (suc n) w id) (on_object w id (found_within n w)) c (found_more n w id)
    (object_from id (object_at w id) (oversize_at w id) (found_within n w) (commit_within n w) c some (λ named k. found_from n w named c some k) (sym (commit_more n w id) ∙ e))

pub at_found : (w : World) (id : List ℕ) (f : FoundCommit) → found_within 16 w id ≡ Ok f → commit_at w id ≡ Some f.commit
at_found w id f e = unfold commit_at in found_to 16 w id f e

pub found_at_commit : (w : World) (id : List ℕ) (c : CommitFields) → commit_at w id ≡ Some c → length c.parents ≤ 16 → IsFound w id c
found_at_commit w id c e some = found_from 16 w id c some (unfold commit_at in e)

pub ruleset behind_laws = (at_found, found_at_commit)
