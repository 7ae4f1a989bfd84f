-- Behind groups stand exec lines alone: all other lines stay.
use Rattle.std.proofs.Common.{◌≡◌, ℕ, Bool, true, false, cond, not, ◌&&◌, ◌||◌, List, [], ◌∷◌, ◌++◌, map, refl, ap, ◌∙◌}
use Rattle.todo_text.specs.declared.line.Line.{Line}
use Rattle.todo_text.specs.declared.line.Line.TheVariants.{Exec}
use Rattle.todo_plan.specs.Groups.{begins, behind_groups, goes_on, if_any, is_exec, with_execs, without_execs}

without_both : (xs ys : List Line) → without_execs (xs ++ ys) ≡ without_execs xs ++ without_execs ys
without_both [] ys = refl
without_both (x ∷ xs) ys = at (without_both xs ys) (is_exec x)
  where
    at : without_execs (xs ++ ys) ≡ without_execs xs ++ without_execs ys → (t : Bool)
        → cond (not t) (x ∷ without_execs (xs ++ ys)) (without_execs (xs ++ ys)) ≡ cond (not t) (x ∷ without_execs xs) (without_execs xs) ++ without_execs ys
    at rest true = rest
    at rest false = ap (λ (ls : List Line). x ∷ ls) rest

execs_go : (commands : List (List ℕ)) → without_execs (map Exec commands) ≡ []
execs_go [] = refl
execs_go (c ∷ commands) = execs_go commands

any_go : (commands : List (List ℕ)) (wanted : Bool) → without_execs (if_any wanted (map Exec commands)) ≡ []
any_go commands true = execs_go commands
any_go commands false = refl

behind_stay : (commands : List (List ℕ)) (inside : Bool) (lines : List Line)
    → without_execs (behind_groups (map Exec commands) inside lines) ≡ without_execs lines
behind_stay commands inside [] = any_go commands inside
behind_stay commands inside (line ∷ lines) =
    let rest = behind_stay commands (begins line || inside && goes_on line) lines in
    without_both (if_any (inside && not (goes_on line)) (map Exec commands)) (line ∷ behind_groups (map Exec commands) (begins line || inside && goes_on line) lines)
    ∙ ap (λ (ls : List Line). ls ++ without_execs (line ∷ behind_groups (map Exec commands) (begins line || inside && goes_on line) lines)) (any_go commands (inside && not (goes_on line)))
    ∙ ap (λ (ls : List Line). cond (not (is_exec line)) (line ∷ ls) ls) rest

pub others_stay : (commands : List (List ℕ)) (lines : List Line) → without_execs (with_execs commands lines) ≡ without_execs lines
others_stay commands lines = behind_stay commands false lines
