-- The control with which a stopped list goes on is one that files can tell, as that of before.
use Rattle.std.proofs.Common.{◌≡◌, Bool, true, false, cond, ap, refl}
use Rattle.std.specs.Prelude.{◌||◌, List, [], ◌∷◌, ◌++◌, Option, Some, None}
use Rattle.std.specs.List.{AllByRecursion, filter, list_any}
use Rattle.message_text.specs.declared.chain.ChainKind.{ChainKind}
use Rattle.reading.specs.Resuming.{chain_kept, has_moved, taken_up, updates}
use Rattle.reading.specs.declared.again.Again.{Again}
use Rattle.reading.specs.declared.again.Again.TheVariants.{Continue, Skip}
use Rattle.reading.specs.declared.going.Going.{Going}
use Rattle.seq_base.specs.PathMaps.{is_less}
use Rattle.seq_base.specs.Words.{Id}
use Rattle.state_found.specs.Reads.{IsControlBut}
use Rattle.state_text.specs.Controls.{AreOrdered, IsChain, IsControl, IsOfVerb, IsSequence, IsUpdate}
use Rattle.state_text.specs.declared.control.Control.{Control}
use Rattle.state_text.specs.declared.control.Left.{Left}
use Rattle.state_text.specs.declared.control.Pending.{Pending}
use Rattle.state_text.specs.declared.control.RefUpdate.{RefUpdate}
use Rattle.state_text.specs.declared.verb.Verb.{Verb}
use Rattle.state_text.specs.declared.verb.Verb.TheVariants.{Rebase, CherryPick, Revert}

pub any_behind : {X : Type 0} (test : X → Bool) (xs ys : List X) → list_any test (xs ++ ys) ≡ (list_any test xs || list_any test ys)
any_behind test [] ys = refl
any_behind test (x ∷ xs) ys = at (test x) (any_behind test xs ys)
  where
    at : (t : Bool) → list_any test (xs ++ ys) ≡ (list_any test xs || list_any test ys)
        → (t || list_any test (xs ++ ys)) ≡ ((t || list_any test xs) || list_any test ys)
    at true same = refl
    at false same = same

-- ---- updates

all_filtered : {X : Type 0} (P : X → Type 0) (test : X → Bool) (xs : List X) → AllByRecursion P xs → AllByRecursion P (filter test xs)
all_filtered P test [] all = tt
all_filtered P test (x ∷ xs) all = at (test x) (all_filtered P test xs all.1)
  where
    at : (t : Bool) → AllByRecursion P (filter test xs) → AllByRecursion P (cond t (x ∷ filter test xs) (filter test xs))
    at true rest = (all.0, rest)
    at false rest = rest

ordered_filtered : (test : RefUpdate → Bool) (us : List RefUpdate) → AreOrdered us → AreOrdered (filter test us)
ordered_filtered test [] order = tt
ordered_filtered test (u ∷ us) order = at (test u) (ordered_filtered test us order.1)
  where
    at : (t : Bool) → AreOrdered (filter test us) → AreOrdered (cond t (u ∷ filter test us) (filter test us))
    at true rest = (all_filtered (λ v. is_less u.name v.name ≡ true) test us order.0, rest)
    at false rest = rest

none_named : (test : RefUpdate → Bool) (us : List RefUpdate) → us ≡ [] → filter test us ≡ []
none_named test us none = ap (filter test) none

-- ---- the chain

still_chain : (again : Again) (moved : Bool) (pending : Option Pending) (chain : List (ChainKind × Id)) → IsChain chain
    → IsChain (chain_kept again moved pending chain)
still_chain Continue true (Some pending) chain is = tt
still_chain Continue true None chain is = is
still_chain Continue false pending chain is = is
still_chain Skip moved pending chain is = is

no_chain : (again : Again) (moved : Bool) (pending : Option Pending) (chain : List (ChainKind × Id)) → chain ≡ []
    → chain_kept again moved pending chain ≡ []
no_chain Continue true (Some pending) chain none = refl
no_chain Continue true None chain none = none
no_chain Continue false pending chain none = none
no_chain Skip moved pending chain none = none

-- ---- the control

module _ (again : Again) (going : Going) (k : Control) (left : Left) where
  abbrev was : Control
  was = record k { left = left }

  abbrev taken : Control
  taken = record (taken_up again going k) { left = left }

  abbrev test : RefUpdate → Bool
  test u = list_any (updates u.name) (k.done ++ going.left)

  still_sequence : IsSequence was → IsSequence taken
  still_sequence is = record {
    ff = is.ff;
    reschedule = is.reschedule;
    head_name = is.head_name;
    onto = is.onto;
    left = is.left;
    backup = is.backup;
    labels = is.labels;
    updates = none_named test k.updates is.updates;
    rewritten = is.rewritten;
    waiting = is.waiting;
    chain = no_chain again (has_moved k going.head) k.pending k.chain is.chain;
  }

  still_of_verb : (verb : Verb) → IsOfVerb verb was → IsOfVerb verb taken
  still_of_verb Rebase is = record { mainline = is.mainline; edit = is.edit; record_origin = is.record_origin; allow_empty = is.allow_empty }
  still_of_verb CherryPick is = still_sequence is
  still_of_verb Revert is = record {
    sequence = still_sequence is.sequence;
    empty = is.empty;
    record_origin = is.record_origin;
    allow_empty = is.allow_empty;
  }

  still_control : IsControl was → IsControl taken
  still_control is = record {
    head_name = is.head_name;
    done = is.done;
    left = is.left;
    labels = is.labels;
    updates = all_filtered IsUpdate test k.updates is.updates;
    ordered = ordered_filtered test k.updates is.ordered;
    chain = still_chain again (has_moved k going.head) k.pending k.chain is.chain;
    pending = is.pending;
    of_verb = still_of_verb k.verb is.of_verb;
  }

pub still_told : (again : Again) (going : Going) (k : Control) → IsControlBut k → IsControlBut (taken_up again going k)
still_told again going k is = (is.0, still_control again going k is.0 is.1)
