-- What a word names is a commit that can be read.
use Rattle.std.proofs.Common.{◌≡◌, ℕ, zero, suc, Bool, true, false, cond, List, [], ◌∷◌, Option, Some, None, Result, Ok, Err, refl, sym, ap, subst, ◌∙◌}
use Rattle.std.specs.Prelude.{◌-◌, ◌==◌, slice_get}
use Rattle.seq_base.specs.World.{World}
use Rattle.seq_outside.specs.Halts.{◌>>=◌, for_reason, or_stop}
use Rattle.seq_outside.specs.declared.lack.Lack.{Lack}
use Rattle.object_text.specs.declared.commit.Commit.{Commit as CommitFields}
use Rattle.object_text.specs.declared.object.Kind.{Kind}
use Rattle.object_text.specs.declared.object.Kind.TheVariants.{Blob, Tree, Commit, Tag}
use Rattle.object_text.specs.declared.object.Object.{Object}
use Rattle.object_text.specs.Store.{named_of}
use Rattle.objects.specs.Named.{commit_in, commit_named, commit_spelled, object_named}
use Rattle.rev_text.specs.Revs.{Said}
use Rattle.rev_text.specs.declared.rev.Step.{Step}
use Rattle.rev_text.specs.declared.rev.Step.TheVariants.{Parent, Ancestor}
use Rattle.rev_names.proofs.Behind.{found_of, ok_inj}
use Rattle.rev_names.specs.Bases.{base_id, label_id}
use Rattle.rev_names.specs.Commits.{ancestor_at, commit_behind, commit_or_behind, found_at, found_within, parent_at, spelled_at, step_to, steps_to, tagged}
use Rattle.rev_names.specs.Faults.{bad_object}
use Rattle.rev_names.specs.Laws.{NamesCommit}
use Rattle.rev_names.specs.Revs.{label_at, rev_at, said_by}
use Rattle.rev_names.specs.declared.commit.FoundCommit.{FoundCommit}
use Rattle.rev_names.specs.declared.fault.RevFault.{RevFault}
use Rattle.rev_names.specs.declared.fault.RevFault.TheVariants.{NotACommit, NoParent, BadObject}

-- the commit of its id is the one that was found
abbrev IsRead : World → FoundCommit → Type 0
IsRead w f = commit_named w f.id ≡ Ok f.commit

-- what is found is read
abbrev Reads : World → Result FoundCommit RevFault → Type 0
Reads w r = (f : FoundCommit) → r ≡ Ok f → IsRead w f

-- ---- tags

reason_ok : (r : Result CommitFields Lack) (c : CommitFields) → for_reason bad_object r ≡ Ok c → r ≡ Ok c
reason_ok (Ok found) c e = ap Ok (ok_inj e)
reason_ok (Err why) c e = absurd cc

with_id : (id : List ℕ) (r : Result CommitFields Lack) (f : FoundCommit) → found_of id r ≡ Ok f → (f.id ≡ id) × (r ≡ Ok f.commit)
with_id id (Ok c) f e = (sym (ap (λ (found : FoundCommit). found.id) (ok_inj e)), ap (λ (found : FoundCommit). Ok found.commit) (ok_inj e))
with_id id (Err why) f e = absurd cc

spelled_read : (w : World) (id : List ℕ) (o : Object) → object_named w id ≡ Ok o → o.kind ≡ Commit → Reads w (spelled_at id o.bytes)
spelled_read w id o there kind f e =
    let k = with_id id (commit_spelled id o.bytes) f (unfold spelled_at in e) in
    subst (λ (i : List ℕ). commit_named w i ≡ Ok f.commit) (sym k.0) (unfold commit_named in rw there (unfold commit_in in rw kind k.1))

named_read : (w : World) (id : List ℕ) (o : Option (List ℕ)) (on : List ℕ → Result FoundCommit RevFault) → ((named : List ℕ) → Reads w (on named))
    → Reads w (or_stop o (BadObject id) >>= on)
named_read w id (Some named) on each f e = each named f e
named_read w id None on each f e = absurd cc

kind_read : (w : World) (id : List ℕ) (o : Object) (kind : Kind) (on : List ℕ → Result FoundCommit RevFault) → object_named w id ≡ Ok o
    → o.kind ≡ kind → ((named : List ℕ) → Reads w (on named))
    → Reads w (commit_or_behind on id kind o.bytes)
kind_read w id o Commit on there is each f e = spelled_read w id o there is f e
kind_read w id o Tag on there is each f e = named_read w id (named_of o.bytes) on each f (unfold tagged in e)
kind_read w id o Blob on there is each f e = absurd cc
kind_read w id o Tree on there is each f e = absurd cc

object_read : (w : World) (id : List ℕ) (r : Result Object Lack) (on : List ℕ → Result FoundCommit RevFault) → object_named w id ≡ r
    → ((named : List ℕ) → Reads w (on named))
    → Reads w (for_reason bad_object r >>= λ o. commit_or_behind on id o.kind o.bytes)
object_read w id (Ok o) on there each f e = kind_read w id o o.kind on there refl each f e
object_read w id (Err why) on there each f e = absurd cc

within_read : (n : ℕ) (w : World) (id : List ℕ) → Reads w (found_within n w id)
within_read zero w id f e = object_read w id (object_named w id) (λ _. Err NotACommit) refl (λ named found k. absurd cc) f (unfold found_within in e)
within_read (suc n) w id f e =
    object_read w id (object_named w id) (found_within n w) refl (λ named. within_read n w named) f (unfold found_within in e)

-- ---- steps

at_read : (w : World) (id : List ℕ) → Reads w (found_at w id)
at_read w id f e =
    let k = with_id id (commit_named w id) f (unfold found_at in e) in
    subst (λ (i : List ℕ). commit_named w i ≡ Ok f.commit) (sym k.0) k.1

parent_of_read : (w : World) (o : Option (List ℕ)) → Reads w (or_stop o NoParent >>= found_at w)
parent_of_read w (Some id) f e = at_read w id f e
parent_of_read w None f e = absurd cc

parent_read : (w : World) (parents : List (List ℕ)) (n : ℕ) → Reads w (parent_at w parents n)
parent_read w parents n f e = parent_of_read w (slice_get parents (n - 1)) f (unfold parent_at in e)

then_read : (w : World) (r : Result FoundCommit RevFault) (next : FoundCommit → Result FoundCommit RevFault) → Reads w r
    → ((found : FoundCommit) → IsRead w found → Reads w (next found)) → Reads w (r >>= next)
then_read w (Ok found) next is each f e = each found (is found refl) f e
then_read w (Err why) next is each f e = absurd cc

here : (w : World) (from : FoundCommit) → ancestor_at zero w from ≡ Ok from
here w from = unfold ancestor_at in refl

ancestor_read : (n : ℕ) (w : World) (from : FoundCommit) → IsRead w from → Reads w (ancestor_at n w from)
ancestor_read zero w from is f e = subst (IsRead w) (ok_inj (sym (here w from) ∙ e)) is
ancestor_read (suc n) w from is f e =
    then_read w (parent_at w from.commit.parents 1) (ancestor_at n w) (parent_read w from.commit.parents 1) (λ found k. ancestor_read n w found k) f (unfold ancestor_at in e)

numbered_read : (w : World) (from : FoundCommit) (n : ℕ) (itself : Bool) → IsRead w from
    → Reads w (cond itself (Ok from) (parent_at w from.commit.parents n))
numbered_read w from n true is f e = subst (IsRead w) (ok_inj e) is
numbered_read w from n false is f e = parent_read w from.commit.parents n f e

step_read : (w : World) (from : FoundCommit) (step : Step) → IsRead w from → Reads w (step_to w from step)
step_read w from (Parent n) is f e = numbered_read w from n (n == 0) is f (unfold step_to in e)
step_read w from (Ancestor n) is f e = ancestor_read n w from is f (unfold step_to in e)

no_steps : (w : World) (from : FoundCommit) → steps_to w from [] ≡ Ok from
no_steps w from = unfold steps_to in refl

steps_read : (w : World) (from : FoundCommit) (steps : List Step) → IsRead w from → Reads w (steps_to w from steps)
steps_read w from [] is f e = subst (IsRead w) (ok_inj (sym (no_steps w from) ∙ e)) is
steps_read w from (step ∷ steps) is f e =
    then_read w (step_to w from step) (λ next. steps_to w next steps) (step_read w from step is) (λ found k. steps_read w found steps k) f (unfold steps_to in e)

-- ---- words

last_read : (w : World) (r : Result FoundCommit RevFault) (id : List ℕ) → Reads w r → (r >>= λ last. Ok last.id) ≡ Ok id → NamesCommit w id
last_read w (Ok last) id is e = subst (NamesCommit w) (ok_inj e) (last.commit, is last refl)
last_read w (Err why) id is e = absurd cc

found_read : (w : World) (r : Result FoundCommit RevFault) (steps : List Step) (id : List ℕ) → Reads w r
    → (r >>= λ found. (steps_to w found steps >>= λ last. Ok last.id)) ≡ Ok id → NamesCommit w id
found_read w (Ok found) steps id is e = last_read w (steps_to w found steps) id (steps_read w found steps (is found refl)) e
found_read w (Err why) steps id is e = absurd cc

behind_read : (w : World) (base : List ℕ) (steps : List Step) (id : List ℕ) → commit_behind w base steps ≡ Ok id → NamesCommit w id
behind_read w base steps id e = found_read w (found_within 16 w base) steps id (within_read 16 w base) (unfold commit_behind in e)

base_read : (w : World) (r : Result (List ℕ) RevFault) (steps : List Step) (id : List ℕ) → (r >>= λ base. commit_behind w base steps) ≡ Ok id
    → NamesCommit w id
base_read w (Ok base) steps id e = behind_read w base steps id e
base_read w (Err why) steps id e = absurd cc

said_read : (w : World) (r : Result Said RevFault) (base : Said → Result (List ℕ) RevFault) (id : List ℕ)
    → (r >>= λ rev. (base rev >>= λ b. commit_behind w b rev.steps)) ≡ Ok id → NamesCommit w id
said_read w (Ok rev) base id e = base_read w (base rev) rev.steps id e
said_read w (Err why) base id e = absurd cc

pub rev_read : (w : World) (word id : List ℕ) → rev_at w word ≡ Ok id → NamesCommit w id
rev_read w word id e = said_read w (said_by word) (λ rev. base_id w rev.base rev.entry) id (unfold rev_at in e)

pub label_read : (w : World) (word id : List ℕ) → label_at w word ≡ Ok id → NamesCommit w id
label_read w word id e = said_read w (said_by word) (λ rev. label_id w rev.base rev.entry) id (unfold label_at in e)

pub ruleset names_read = (rev_read, label_read)
