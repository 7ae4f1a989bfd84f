-- What is noted of a child that could not be run.
use Rattle.std.proofs.Common.{◌≡◌, Err, subst}
use Rattle.seq_outside.specs.Child.{Noted, Runs, noted}
use Rattle.seq_outside.specs.Seen.{Seen}
use Rattle.seq_outside.specs.declared.child.ChildError.{ChildError}
use Rattle.seq_outside.specs.declared.child.ChildError.TheVariants.{Failed}
use Rattle.seq_outside.specs.declared.child.Job.{Job}

pub noted_failed : {A : Type 0} (told : Type 0) (ran : A → Noted → A → Type 0) (job : Job) (p q : A) (old new : Seen) (e : ChildError) → e ≡ Failed
    → Runs told ran job p old (Err e) q new → ran p (noted job old (Err Failed) new) q
noted_failed told ran job p q old new e same h = subst (λ (x : ChildError). Runs told ran job p old (Err x) q new) same h
