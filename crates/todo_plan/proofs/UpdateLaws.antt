-- Behind groups stand update-ref lines alone: all other lines stay.
use Rattle.std.proofs.Common.{◌≡◌, ℕ, Bool, true, false, cond, not, ◌&&◌, ◌||◌, List, [], ◌∷◌, ◌++◌, filter, map, refl, ap, ◌∙◌}
use Rattle.merge_base.specs.Graphs.{is_among}
use Rattle.todo_text.specs.declared.line.Line.{Line}
use Rattle.todo_text.specs.declared.line.Line.TheVariants.{UpdateRef}
use Rattle.todo_plan.specs.Groups.{begins, goes_on, if_any}
use Rattle.todo_plan.specs.Told.{rev_of}
use Rattle.todo_plan.specs.UpdateRefs.{Branch, behind_each, group_revs, is_update, update_lines, without_updates}

without_both : (xs ys : List Line) → without_updates (xs ++ ys) ≡ without_updates xs ++ without_updates ys
without_both [] ys = refl
without_both (x ∷ xs) ys = at (without_both xs ys) (is_update x)
  where
    at : without_updates (xs ++ ys) ≡ without_updates xs ++ without_updates ys → (t : Bool)
        → cond (not t) (x ∷ without_updates (xs ++ ys)) (without_updates (xs ++ ys)) ≡ cond (not t) (x ∷ without_updates xs) (without_updates xs) ++ without_updates ys
    at rest true = rest
    at rest false = ap (λ (ls : List Line). x ∷ ls) rest

updates_go : (branches : List Branch) (revs : List (List ℕ)) → without_updates (update_lines branches revs) ≡ []
updates_go [] revs = refl
updates_go (b ∷ branches) revs = at (updates_go branches revs) (is_among revs b.1)
  where
    at : without_updates (update_lines branches revs) ≡ [] → (t : Bool)
        → without_updates (map (λ (c : Branch). UpdateRef c.0) (cond t (b ∷ filter (λ c. is_among revs c.1) branches) (filter (λ c. is_among revs c.1) branches))) ≡ []
    at rest true = rest
    at rest false = rest

any_go : (branches : List Branch) (revs : List (List ℕ)) (wanted : Bool) → without_updates (if_any wanted (update_lines branches revs)) ≡ []
any_go branches revs true = updates_go branches revs
any_go branches revs false = refl

each_stay : (branches : List Branch) (inside : Bool) (revs : List (List ℕ)) (lines : List Line)
    → without_updates (behind_each branches inside revs lines) ≡ without_updates lines
each_stay branches inside revs [] = any_go branches revs inside
each_stay branches inside revs (line ∷ lines) =
    let behind = behind_each branches (begins line || inside && goes_on line) (group_revs (goes_on line) revs (rev_of line)) lines in
    let rest = each_stay branches (begins line || inside && goes_on line) (group_revs (goes_on line) revs (rev_of line)) lines in
    without_both (if_any (inside && not (goes_on line)) (update_lines branches revs)) (line ∷ behind)
    ∙ ap (λ (ls : List Line). ls ++ without_updates (line ∷ behind)) (any_go branches revs (inside && not (goes_on line)))
    ∙ ap (λ (ls : List Line). cond (not (is_update line)) (line ∷ ls) ls) rest

pub others_stay : (branches : List Branch) (lines : List Line) → without_updates (behind_each branches false [] lines) ≡ without_updates lines
others_stay branches lines = each_stay branches false [] lines
