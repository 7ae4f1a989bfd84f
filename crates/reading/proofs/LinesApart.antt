-- Lines that look at no file of a list.
use Rattle.std.proofs.Common.{Bool, true, false, ap, refl}
use Rattle.std.specs.Prelude.{Result, if◌then◌else◌, not}
use Rattle.child_jobs.specs.Jobs.{exec_of}
use Rattle.child_steps.specs.Children.{end_of, is_good}
use Rattle.seq_base.specs.Words.{Id, Text}
use Rattle.seq_base.specs.World.{World}
use Rattle.seq_model.specs.declared.stop.StopKind.TheVariants as kind
use Rattle.seq_outside.specs.Doing.{◌>>=◌, child_ends, gives, place, places, stops, stops_if}
use Rattle.seq_outside.specs.Halts.{for_reason}
use Rattle.seq_outside.specs.declared.child.Job.{Job}
use Rattle.state_text.specs.declared.options.Options.{Options}
use Rattle.line_steps.specs.Heads.{clean_at, head_found}
use Rattle.line_steps.specs.Hooks.{job_does}
use Rattle.line_steps.specs.declared.setting.Setting.{Setting}
use Rattle.line_steps.specs.Lines.{break_does, exec_does, exec_failed, exec_left, exec_looks, exec_takes}
use Rattle.line_steps.specs.Places.{at_head, blocked, heads, reads, seen, stop_of, with_unseen}
use Rattle.line_steps.specs.Steps.{line_does}
use Rattle.reading.proofs.Apart.{children_apart, looks_apart, then_apart}
use Rattle.reading.proofs.CleanApart.{cleans_apart}
use Rattle.reading.proofs.RefsApart.{heads_apart}
use Rattle.reading.specs.Apart.{GoesApart, ReadsApart}
use Rattle.reading.specs.Laws.{LinesApart}
use Rattle.reading.specs.Stages.{before_line_does, between, clean_does, closes, head_does, left_unclean, look_does}

-- ---- small steps

gives_apart : {P E X : Type 0} (x : X) → GoesApart {P = P} {E = E} (gives x)
gives_apart x a b here coming alike = record { end = refl; world = alike; place = refl; coming = refl; asked = λ more others are. are }

stops_apart : {P E X : Type 0} (why : E) → GoesApart {P = P} {E = E} {X = X} (stops why)
stops_apart why a b here coming alike = record { end = refl; world = alike; place = refl; coming = refl; asked = λ more others are. are }

stops_if_apart : {P E : Type 0} (test : Bool) (why : E) → GoesApart {P = P} (stops_if test why)
stops_if_apart true why = stops_apart why
stops_if_apart false why = gives_apart tt

place_apart : {P E : Type 0} → GoesApart {P = P} {E = E} place
place_apart a b here coming alike = record { end = refl; world = alike; place = refl; coming = refl; asked = λ more others are. are }

places_apart : {P E : Type 0} (change : P → P) → GoesApart {P = P} {E = E} (places change)
places_apart change a b here coming alike = record { end = refl; world = alike; place = refl; coming = refl; asked = λ more others are. are }

reads_apart : {P E F X : Type 0} (told : E → F) (read : World → Result X E) → ReadsApart read → GoesApart {P = P} (reads told read)
reads_apart told read reads_same = looks_apart (λ w. for_reason told (read w)) (λ a b alike. ap (for_reason told) (reads_same a b alike))

-- ---- what comes before a line

clean_apart : (head : Id) → GoesApart (clean_does head)
unfolding clean_does
clean_apart head =
    then_apart (reads left_unclean (λ w. clean_at w head)) (λ _. seen) (reads_apart left_unclean (λ w. clean_at w head) (cleans_apart head))
    (λ _. places_apart (with_unseen false))

look_if : (unseen : Bool) (head : Id) → GoesApart (if unseen then clean_does head else gives tt)
look_if true head = clean_apart head
look_if false head = gives_apart tt

look_apart : (head : Id) → GoesApart (look_does head)
unfolding look_does
look_apart head =
    then_apart place (λ here. if here.unseen then clean_does head else gives tt) place_apart (λ here. look_if here.unseen head)

head_apart : GoesApart head_does
unfolding head_does
head_apart =
    then_apart (reads between head_found) (λ head. heads head >>= λ _. gives head) (reads_apart between head_found heads_apart)
    (λ head. then_apart (heads head) (λ _. gives head) (places_apart (at_head head)) (λ _. gives_apart head))

closes_apart : (head : Id) → GoesApart (closes head)
closes_apart head a b here coming alike = record { end = refl; world = alike; place = refl; coming = refl; asked = λ more others are. are }

before_apart : GoesApart before_line_does
unfolding before_line_does
before_apart =
    then_apart head_does (λ head. look_does head >>= λ _. closes head) head_apart
    (λ head. then_apart (look_does head) (λ _. closes head) (look_apart head) (λ _. closes_apart head))

-- ---- exec

job_apart : (job : Job) → GoesApart (job_does job)
unfolding job_does
job_apart job = then_apart (child_ends job) (λ child. gives (end_of child)) (children_apart job) (λ child. gives_apart (end_of child))

takes_apart : (head : Id) → GoesApart (exec_takes head)
unfolding exec_takes
takes_apart head =
    then_apart (reads exec_left (λ w. clean_at w head)) (λ _. heads head) (reads_apart exec_left (λ w. clean_at w head) (cleans_apart head))
    (λ _. places_apart (at_head head))

after_apart : GoesApart exec_looks
unfolding exec_looks
after_apart = then_apart (reads blocked head_found) exec_takes (reads_apart blocked head_found heads_apart) takes_apart

exec_apart : (again : Bool) (command : Text) → GoesApart (exec_does again command)
unfolding exec_does
exec_apart again command =
    then_apart (job_does (exec_of command)) (λ child. stops_if (not (is_good child.exit)) (exec_failed again child) >>= λ _. exec_looks)
    (job_apart (exec_of command))
    (λ child. then_apart (stops_if (not (is_good child.exit)) (exec_failed again child)) (λ _. exec_looks)
    (stops_if_apart (not (is_good child.exit)) (exec_failed again child)) (λ _. after_apart))

break_apart : GoesApart break_does
unfolding break_does
break_apart = stops_apart (stop_of kind.Break)

pub lines_apart : (setting : Setting) (options : Options) → LinesApart setting options
unfolding line_does
lines_apart setting options = record {
  before = before_apart;
  noops = gives_apart tt;
  drops = λ rev note. gives_apart tt;
  breaks = break_apart;
  execs = λ command. exec_apart options.reschedule command;
}
