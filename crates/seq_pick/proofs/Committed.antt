-- A pick that is prepared, and its commit, to which HEAD is moved.
use Rattle.std.proofs.Common.{◌≡◌, Ok, Err, refl}
use Rattle.object_text.specs.declared.commit.Commit.{Commit as CommitFields}
use Rattle.objects.specs.Puts.{object_put}
use Rattle.ref_store.specs.Moves.{head_moved}
use Rattle.ref_text.specs.declared.head.Head.{Head}
use Rattle.seq_base.specs.Words.{Id, Text}
use Rattle.seq_base.specs.World.{World}
use Rattle.seq_model.specs.Making.{commit_object, pick_line, with_commit}
use Rattle.seq_model.specs.Pick.{Finding}
use Rattle.seq_model.specs.Picked.{Prepared as Definition, merge_made, prepared_from}
use Rattle.seq_model.specs.Refusing.{denied_git}
use Rattle.seq_model.specs.declared.denial.Denial.{Denial}
use Rattle.seq_outside.specs.Turns.{Turns, saying}
use Rattle.seq_pick.specs.Preparing.{prepared_is}
use Rattle.seq_pick.specs.declared.committing.Prepared.{Prepared}
use Rattle.seq_outside.specs.declared.halt.Halt.{Halt}
use Rattle.seq_outside.specs.declared.halt.Halt.TheVariants.{Stops, Fault, Memory}

module _ (on : Head) (head id : Id) (commit : CommitFields) (ident : Text) (old mid new : World) (put : saying denied_git (object_put (commit_object commit)) old ≡ (Ok id, mid)) where
  pub commit_made : saying denied_git (head_moved on id (pick_line head id ident commit.message)) mid ≡ (Ok tt, new)
      → with_commit on head commit ident old ≡ (Ok id, new)
  unfolding with_commit
  commit_made moved = rw (put, moved) refl

  pub commit_stops : (halt : Halt Denial)
      → Turns {X = Unit {0}} {Y = Unit {0}} (λ x. x) (Err halt) (saying denied_git (head_moved on id (pick_line head id ident commit.message)) mid) new
      → Turns {X = Id} {Y = Id} (λ id. id) (Err halt) (with_commit on head commit ident old) new
  unfolding with_commit
  commit_stops (Stops why) is = rw (put, is) refl
  commit_stops Fault is = tt
  commit_stops Memory is = tt

-- a pick stops where its merge cannot be made
pub prepared_stops : (finding : Finding) (halt : Halt Denial) (old new : World)
    → Turns {X = Id} {Y = Id} (λ id. id) (Err halt) (merge_made finding.merging old) new
    → Turns {X = Prepared} {Y = Definition} prepared_is (Err halt) (prepared_from finding old) new
unfolding prepared_from
prepared_stops finding (Stops why) old new is = rw is refl
prepared_stops finding Fault old new is = tt
prepared_stops finding Memory old new is = tt
