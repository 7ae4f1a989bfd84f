-- The todo that a start generates is one that can be written, and the control with which it begins is one that files can tell.
use Rattle.std.proofs.Common.{◌≡◌, ℕ, Bool, true, false, cond, not, ◌&&◌, ◌||◌, List, [], ◌∷◌, ◌++◌, map, codes, Option, Some, None}
use Rattle.std.proofs.Common.{inl, inr, refl, ap, arith}
use Rattle.std.specs.Prelude.{All, is_some, ◌==◌}
use Rattle.std.specs.List.{list_all}
use Rattle.std.proofs.lemmas.Bool.{and_parts, ne_eqb, not-true}
use Rattle.std.proofs.lemmas.List.Elements.{All-nil, All-cons, All-append, All-head, All-tail, Contains-append_right}
use Rattle.std.proofs.lemmas.Slice.Eq.{bytes_eq-Decides}
use Rattle.std.specs.Str.{bytes_eq}
use Rattle.history.specs.Laws.{IsHistory, IsRange}
use Rattle.merge_base.specs.declared.graph.Node.{Node}
use Rattle.merge_base.specs.Bases.{itself}
use Rattle.merge_base.specs.Graphs.{first_missing, has, is_among}
use Rattle.ref_text.specs.Heads.{IsHeadValue}
use Rattle.ref_text.specs.declared.head.Head.{Head}
use Rattle.ref_text.specs.declared.head.Head.TheVariants.{Branch, Detached}
use Rattle.seq_base.specs.Blanks.{is_blank}
use Rattle.seq_base.specs.RefNames.{IsRefName}
use Rattle.seq_base.specs.Words.{Id, Text}
use Rattle.seq_base.specs.World.{World}
use Rattle.seq_model.specs.declared.command.StartWords.{StartWords}
use Rattle.seq_start.specs.Checks.{are_rebase_options, branch_of, control_of, is_built, is_command, is_rebase, lacks_options}
use Rattle.seq_start.specs.Plans.{IsStart}
use Rattle.state_text.specs.Controls.{IfThere}
use Rattle.todo_plan.specs.Groups.{begins, behind_groups, goes_on, if_any, with_execs}
use Rattle.todo_text.specs.Spells.{IsSpelled}
use Rattle.todo_text.specs.declared.line.Line.{Line}
use Rattle.todo_text.specs.declared.line.Line.TheVariants.{Exec}

-- ---- commands

exec_spelled : (command : Text) → is_command command ≡ true → IsSpelled (Exec command)
exec_spelled [] e = absurd cc
exec_spelled (b ∷ bs) e =
    let parts = and_parts (not (is_blank b)) (list_all (λ c. not (c == 10)) (b ∷ bs)) e in
    record {
      text = codes "exec" ++ 32 ∷ b ∷ bs;
      spells = record {
        one_line = parts.1;
        command = codes "exec";
        named = inl refl;
        rest = 32 ∷ b ∷ bs;
        words = (32 ∷ b ∷ bs, record { front = []; blanks = refl; is_word = (refl, refl); apart = inr refl; whole = refl }, refl);
        ends = (ne_eqb _ _ (λ e. omega arith), record { front = 32 ∷ []; blanks = refl; begins = not-true (is_blank b) parts.0; whole = refl });
        fit = refl;
      };
    }

execs_spelled : (commands : List Text) → list_all is_command commands ≡ true → All IsSpelled (map Exec commands)
execs_spelled [] e = All-nil IsSpelled
execs_spelled (command ∷ commands) e =
    let parts = and_parts (is_command command) (list_all is_command commands) e in
    All-cons IsSpelled (Exec command) (map Exec commands) (exec_spelled command parts.0) (execs_spelled commands parts.1)

any_spelled : (more : List Line) (wanted : Bool) → All IsSpelled more → All IsSpelled (if_any wanted more)
any_spelled more true h = h
any_spelled more false h = All-nil IsSpelled

groups_spelled : (more : List Line) (inside : Bool) (lines : List Line) → All IsSpelled more → All IsSpelled lines
    → All IsSpelled (behind_groups more inside lines)
groups_spelled more inside [] h all = any_spelled more inside h
groups_spelled more inside (line ∷ lines) h all =
    All-append IsSpelled (if_any (inside && not (goes_on line)) more) (line ∷ behind_groups more (begins line || inside && goes_on line) lines)
    (any_spelled more (inside && not (goes_on line)) h)
    (All-cons IsSpelled line (behind_groups more (begins line || inside && goes_on line) lines) (All-head IsSpelled line lines all)
    (groups_spelled more (begins line || inside && goes_on line) lines h (All-tail IsSpelled line lines all)))

pub with_execs_spelled : (commands : List Text) (lines : List Line) → list_all is_command commands ≡ true → All IsSpelled lines
    → All IsSpelled (with_execs commands lines)
with_execs_spelled commands lines e all = groups_spelled (map Exec commands) false lines (execs_spelled commands e) all

-- ---- commits

none_missing : (graph : List Node) (ids : List Id) → ((id : Id) → is_among ids id ≡ true → has graph id ≡ true) → first_missing graph ids ≡ None
none_missing graph [] there = refl
none_missing graph (id ∷ ids) there = at (has graph id) (there id (same id)) (none_missing graph ids (λ other among. there other (later other among)))
  where
    same : (one : Id) → (bytes_eq one one || is_among ids one) ≡ true
    same one = ap (λ (t : Bool). t || is_among ids one) ((bytes_eq-Decides one one).1 refl)

    later : (other : Id) → is_among ids other ≡ true → (bytes_eq id other || is_among ids other) ≡ true
    later other among = or_true (bytes_eq id other) among
      where
        or_true : (t : Bool) → is_among ids other ≡ true → (t || is_among ids other) ≡ true
        or_true true e = refl
        or_true false e = e

    at : (t : Bool) → t ≡ true → first_missing graph ids ≡ None → cond (not t) (Some id) (first_missing graph ids) ≡ None
    at true e rest = rest
    at false e rest = absurd cc

one_missing : (graph : List Node) (id : Id) → has graph id ≡ true → first_missing graph (id ∷ []) ≡ None
one_missing graph id there = at (has graph id) there
  where
    at : (t : Bool) → t ≡ true → cond (not t) (Some id) (first_missing graph []) ≡ None
    at true e = refl
    at false e = absurd cc

pub upstream_known : (w : World) (graph : List Node) (upstream head : Id) → IsHistory w (upstream ∷ head ∷ []) graph
    → first_missing graph (upstream ∷ []) ≡ None
upstream_known w graph upstream head h =
    one_missing graph upstream ((h.reached upstream).1 (record { tip = upstream; among = (0, omega arith, refl); above = itself }))

pub head_known : (w : World) (graph : List Node) (upstream head : Id) → IsHistory w (upstream ∷ head ∷ []) graph
    → first_missing graph (head ∷ []) ≡ None
head_known w graph upstream head h =
    one_missing graph head ((h.reached head).1 (record { tip = head; among = (1, omega arith, refl); above = itself }))

pub range_known : (w : World) (graph : List Node) (upstream head : Id) (ids : List Id) → IsHistory w (upstream ∷ head ∷ []) graph
    → IsRange graph (upstream ∷ []) (head ∷ []) ids → first_missing graph ids ≡ None
range_known w graph upstream head ids h range = none_missing graph ids there
  where
    there : (id : Id) → is_among ids id ≡ true → has graph id ≡ true
    there id among =
        let r = ((range.each id).0 among).0 in
        (h.reached id).1 (record { tip = r.tip; among = Contains-append_right (upstream ∷ []) (head ∷ []) r.tip r.among; above = r.above })

-- ---- the control

pub commands_built : (words : StartWords) → is_built words ≡ true → list_all is_command words.execs ≡ true
commands_built words e =
    let one = and_parts (is_rebase words.verb) (lacks_options words && (are_rebase_options words.options && list_all is_command words.execs)) e in
    let two = and_parts (lacks_options words) (are_rebase_options words.options && list_all is_command words.execs) one.1 in
    (and_parts (are_rebase_options words.options) (list_all is_command words.execs) two.1).1

options_built : (words : StartWords) → is_built words ≡ true → are_rebase_options words.options ≡ true
options_built words e =
    let one = and_parts (is_rebase words.verb) (lacks_options words && (are_rebase_options words.options && list_all is_command words.execs)) e in
    let two = and_parts (lacks_options words) (are_rebase_options words.options && list_all is_command words.execs) one.1 in
    (and_parts (are_rebase_options words.options) (list_all is_command words.execs) two.1).0

no_mainline : (mainline : Option ℕ) → not (is_some mainline) ≡ true → mainline ≡ None
no_mainline None e = refl
no_mainline (Some n) e = absurd cc

named : (on : Head) → IsHeadValue on → IfThere IsRefName (branch_of on)
named (Branch name) value = value
named (Detached id) value = tt

pub begins_as_control : (words : StartWords) (on : Head) (head onto : Id) (todo : Text) → is_built words ≡ true → IsHeadValue on
    → IsStart (control_of words on head onto todo)
begins_as_control words on head onto todo built value =
    let options = words.options in
    let built = options_built words built in
    let one = and_parts (not (is_some options.mainline)) (not options.edit && (not options.record_origin && not options.allow_empty)) built in
    let two = and_parts (not options.edit) (not options.record_origin && not options.allow_empty) one.1 in
    let three = and_parts (not options.record_origin) (not options.allow_empty) two.1 in
    record {
      control = record {
        head_name = named on value;
        done = All-nil IsSpelled;
        left = All-nil IsSpelled;
        labels = tt;
        updates = tt;
        ordered = tt;
        chain = tt;
        pending = tt;
        of_verb = record {
          mainline = no_mainline options.mainline one.0;
          edit = not-true options.edit two.0;
          record_origin = not-true options.record_origin three.0;
          allow_empty = not-true options.allow_empty three.1;
        };
      };
      rebase = refl;
    }
