-- What stands behind a stop and behind the end of a list, and before their last write.
use Rattle.std.proofs.Common.{◌≡◌, ℕ, zero, suc, ◌+◌, ◌<◌, ◌≤◌, Bool, true, false, not, ◌||◌, cond, List, [], ◌∷◌, ◌++◌, length, take, Option, Some, None, refl, sym, ap, ◌∙◌, length-append, arith}
use Rattle.std.specs.Prelude.{filter}
use Rattle.std.specs.FinMap as files
use Rattle.std.specs.Cmp.{eq_by_cmp_equiv}
use Rattle.std.specs.Cmp.Lexicographic.{nat_list_cmp_total}
use Rattle.std.proofs.lemmas.Bool.{and_parts, not-true, or_parts}
use Rattle.std.specs.Str.{bytes_eq}
use Rattle.std.proofs.lemmas.List.{take-append-le}
use Rattle.std.proofs.lemmas.Map.Text.{is_eq-slice_cmp}
use Rattle.seq_base.specs.World.{World}
use Rattle.seq_base.proofs.Shape.{same_path}
use Rattle.seq_outside.specs.declared.write.Write.{Write}
use Rattle.seq_outside.specs.declared.write.Write.TheVariants.{Remove}
use Rattle.seq_outside.specs.Writes.{after, is_at, is_written, left_by, written}
use Rattle.seq_outside.proofs.Drafts.{get_after, written_elsewhere}
use Rattle.state_text.specs.declared.verb.Verb.{Verb}
use Rattle.state_text.specs.declared.verb.Verb.TheVariants.{Rebase, CherryPick, Revert}
use Rattle.state_text.specs.Places.{in_step_path}
use Rattle.state_text.specs.Stops.{KeepsInStep, behind_end, behind_stop, end_writes, goes_early, has_file, is_listed, is_path, is_stale, last_paths, put_all, remove_all, said_by, stop_writes}

-- ---- what writes leave at one path

left_after : Option (List ℕ) → List Write → List ℕ → Option (List ℕ)
left_after o [] q = o
left_after o (x ∷ xs) q = left_after (cond (is_at q x) (left_by x) o) xs q

get_written : (w : World) (xs : List Write) (q : List ℕ) → files.get (written w xs) q ≡ left_after (files.get w q) xs q
unfolding left_after
get_written w [] q = refl
get_written w (x ∷ xs) q = get_written (after w x) xs q ∙ ap (λ (o : Option (List ℕ)). left_after o xs q) (get_after w x q)

left_append : (o : Option (List ℕ)) (xs ys : List Write) (q : List ℕ) → left_after o (xs ++ ys) q ≡ left_after (left_after o xs q) ys q
unfolding left_after
left_append o [] ys q = refl
left_append o (x ∷ xs) ys q = left_append (cond (is_at q x) (left_by x) o) xs ys q

left_puts : (o : Option (List ℕ)) (all : List (List ℕ × List ℕ)) (q : List ℕ) → left_after o (put_all all) q ≡ said_by o all q
unfolding left_after
left_puts o [] q = refl
left_puts o (f ∷ all) q = left_puts (cond (is_path q f.0) (Some f.1) o) all q

either_none : (a b : Bool) (o : Option (List ℕ)) → cond b None (cond a None o) ≡ cond (a || b) None o
either_none true true o = refl
either_none true false o = refl
either_none false b o = refl

left_removed : (o : Option (List ℕ)) (ps : List (List ℕ)) (q : List ℕ) → left_after o (remove_all ps) q ≡ cond (is_listed ps q) None o
unfolding left_after
left_removed o [] q = refl
left_removed o (p ∷ ps) q = left_removed (cond (is_path q p) None o) ps q ∙ either_none (is_path q p) (is_listed ps q) o

-- ---- what they name

written_puts : (all : List (List ℕ × List ℕ)) (q : List ℕ) → is_written (put_all all) q ≡ has_file all q
written_puts [] q = refl
written_puts (f ∷ all) q = ap (λ (b : Bool). is_path q f.0 || b) (written_puts all q)

written_removed : (ps : List (List ℕ)) (q : List ℕ) → is_written (remove_all ps) q ≡ is_listed ps q
written_removed [] q = refl
written_removed (p ∷ ps) q = ap (λ (b : Bool). is_path q p || b) (written_removed ps q)

written_both : (xs ys : List Write) (q : List ℕ) → is_written xs q ≡ false → is_written ys q ≡ false → is_written (xs ++ ys) q ≡ false
written_both [] ys q a b = b
written_both (x ∷ xs) ys q a b =
    let parts = or_parts (is_at q x) (is_written xs q) a in
    let first = parts.0 in
    rw first (written_both xs ys q parts.1 b)

taken : (n : ℕ) (xs : List Write) (q : List ℕ) → is_written xs q ≡ false → is_written (take n xs) q ≡ false
taken zero xs q none = refl
taken (suc n) [] q none = refl
taken (suc n) (x ∷ xs) q none =
    let parts = or_parts (is_at q x) (is_written xs q) none in
    let first = parts.0 in
    rw first (taken n xs q parts.1)

-- before the last write a path that only it names is as it was
before_last : (w : World) (front : List Write) (x : Write) (q : List ℕ) → is_written front q ≡ false
    → (n : ℕ) → n < length (front ++ x ∷ []) → files.get (written w (take n (front ++ x ∷ []))) q ≡ files.get w q
before_last w front x q none n lt =
    let len : length (front ++ x ∷ []) ≡ length front + 1 = length-append front (x ∷ []) in
    let le : n ≤ length front = omega arith in
    let cut : take n (front ++ x ∷ []) ≡ take n front = rw take-append-le in
    ap (λ (ws : List Write). files.get (written w ws) q) cut ∙ written_elsewhere w (take n front) q (taken n front q none)

turned : (a b : List ℕ) → is_path a b ≡ false → is_path b a ≡ false
turned a b e = let laws = eq_by_cmp_equiv nat_list_cmp_total in laws.symm b a ∙ e

-- a path that no chosen one is
none_chosen : (test : List ℕ → Bool) (s : List ℕ) (ps : List (List ℕ)) → ((p : List ℕ) → test p ≡ true → is_path p s ≡ false)
    → is_listed (filter test ps) s ≡ false
none_chosen test s [] other = refl
none_chosen test s (p ∷ ps) other = at (test p) refl (none_chosen test s ps other)
  where
    at : (b : Bool) → test p ≡ b → is_listed (filter test ps) s ≡ false → is_listed (cond b (p ∷ filter test ps) (filter test ps)) s ≡ false
    at true is later = let first = turned p s (other p is) in rw first later
    at false is later = later

-- a path that passes is chosen where it is listed
all_chosen : (test : List ℕ → Bool) (q : List ℕ) (ps : List (List ℕ)) → test q ≡ true → is_listed (filter test ps) q ≡ is_listed ps q
all_chosen test q [] passes = refl
all_chosen test q (p ∷ ps) passes = at (test p) refl (is_path q p) refl (all_chosen test q ps passes)
  where
    at : (b : Bool) → test p ≡ b → (same : Bool) → is_path q p ≡ same → is_listed (filter test ps) q ≡ is_listed ps q
        → is_listed (cond b (p ∷ filter test ps) (filter test ps)) q ≡ (is_path q p || is_listed ps q)
    at true is same are later = ap (λ (b : Bool). is_path q p || b) later
    at false is true are later =
        let p-is = same_path q p are in
        let passes-too : test p ≡ true = ap test (sym p-is) ∙ passes in
        absurd cc
    at false is false are later = rw are later

pub or_none : (b : Bool) → (b || false) ≡ b
or_none true = refl
or_none false = refl

-- ---- a stop

pub stop_behind : (verb : Verb) (all : List (List ℕ × List ℕ)) (found : List (List ℕ)) (w : World) (q : List ℕ)
    → files.get (written w (stop_writes verb all found)) q ≡ behind_stop verb all found w q
unfolding left_after
stop_behind verb all found w q =
    let s = in_step_path verb in
    let stale = filter (is_stale verb all) found in
    let o = files.get w q in
    get_written w (stop_writes verb all found) q
    ∙ left_append o (put_all all ++ remove_all stale) (Remove s ∷ []) q
    ∙ ap (λ (v : Option (List ℕ)). cond (is_path q s) None v)
    (left_append o (put_all all) (remove_all stale) q
    ∙ left_removed (left_after o (put_all all) q) stale q
    ∙ ap (λ (v : Option (List ℕ)). cond (is_listed stale q) None v) (left_puts o all q))

pub stop_in_step : (verb : Verb) (all : List (List ℕ × List ℕ)) (found : List (List ℕ)) (w : World) → has_file all (in_step_path verb) ≡ false
    → KeepsInStep verb (stop_writes verb all found) w
stop_in_step verb all found w none n lt =
    let s = in_step_path verb in
    let stale = filter (is_stale verb all) found in
    let others : is_listed stale s ≡ false = none_chosen (is_stale verb all) s found (λ p is. not_stale p is) in
    let front : is_written (put_all all ++ remove_all stale) s ≡ false = written_both (put_all all) (remove_all stale) s (written_puts all s ∙ none) (written_removed stale s ∙ others) in
    before_last w (put_all all ++ remove_all stale) (Remove s) s front n lt
  where
    not_stale : (p : List ℕ) → is_stale verb all p ≡ true → is_path p (in_step_path verb) ≡ false
    not_stale p is = not-true (is_path p (in_step_path verb)) (and_parts (not (has_file all p)) (not (is_path p (in_step_path verb))) is).1

-- ---- the end

early_or_none : (verb : Verb) (found : List (List ℕ)) (o : Option (List ℕ)) (q : List ℕ) (last here : Bool) → is_listed (last_paths verb) q ≡ last
    → is_path q (in_step_path verb) ≡ here
    → cond here None (cond last None (cond (is_listed (filter (goes_early verb) found) q) None o)) ≡ cond here None (cond last None (cond (is_listed found q) None o))
early_or_none verb found o q last true a b = refl
early_or_none verb found o q true false a b = refl
early_or_none verb found o q false false a b =
    let early : goes_early verb q ≡ true = rw (a, b) refl in
    ap (λ (v : Bool). cond v None o) (all_chosen (goes_early verb) q found early)

pub end_behind : (verb : Verb) (found : List (List ℕ)) (w : World) (q : List ℕ)
    → files.get (written w (end_writes verb found)) q ≡ behind_end verb found w q
unfolding left_after
end_behind verb found w q =
    let s = in_step_path verb in
    let early = filter (goes_early verb) found in
    let o = files.get w q in
    get_written w (end_writes verb found) q
    ∙ left_append o (remove_all early ++ remove_all (last_paths verb)) (Remove s ∷ []) q
    ∙ ap (λ (v : Option (List ℕ)). cond (is_path q s) None v)
    (left_append o (remove_all early) (remove_all (last_paths verb)) q
    ∙ left_removed (left_after o (remove_all early) q) (last_paths verb) q
    ∙ ap (λ (v : Option (List ℕ)). cond (is_listed (last_paths verb) q) None v) (left_removed o early q))
    ∙ early_or_none verb found o q (is_listed (last_paths verb) q) (is_path q s) refl refl

last_apart : (verb : Verb) → is_listed (last_paths verb) (in_step_path verb) ≡ false
last_apart Rebase = refl
last_apart CherryPick = refl
last_apart Revert = refl

pub end_in_step : (verb : Verb) (found : List (List ℕ)) (w : World) → KeepsInStep verb (end_writes verb found) w
end_in_step verb found w n lt =
    let s = in_step_path verb in
    let early = filter (goes_early verb) found in
    let others : is_listed early s ≡ false = none_chosen (goes_early verb) s found (λ p is. not_early p is) in
    let front : is_written (remove_all early ++ remove_all (last_paths verb)) s ≡ false = written_both (remove_all early) (remove_all (last_paths verb)) s (written_removed early s ∙ others) (written_removed (last_paths verb) s ∙ last_apart verb) in
    before_last w (remove_all early ++ remove_all (last_paths verb)) (Remove s) s front n lt
  where
    not_early : (p : List ℕ) → goes_early verb p ≡ true → is_path p (in_step_path verb) ≡ false
    not_early p is =
        not-true (is_path p (in_step_path verb)) (and_parts (not (is_listed (last_paths verb) p)) (not (is_path p (in_step_path verb))) is).1

pub ruleset stop_laws = (stop_behind, stop_in_step)

pub ruleset end_laws = (end_behind, end_in_step)

-- paths are one where their bytes are
pub path_test : (a b : List ℕ) → is_path a b ≡ bytes_eq a b
path_test a b = is_eq-slice_cmp a b
