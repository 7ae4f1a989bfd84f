-- A put that is not blocked keeps the shape of a world.
use Rattle.std.proofs.Common.{◌≡◌, ◌⊎◌, ℕ, length, slice_index, nat_eq, ◌==◌, ◌&&◌, Bool, true, false, ◌||◌, cond, List, [], ◌∷◌, Some, None, refl, sym, ap, ◌∙◌, inl, inr}
use Rattle.std.specs.Cmp.Lexicographic.{nat_list_cmp_total}
use Rattle.std.specs.FinMap as map
use Rattle.std.specs.FinMap.{contains_key-keys, slice_cmp-IsAntisymmetric, nat_cmp-IsAntisymmetric, get-insert, get-remove, entries, entries-insert, put}
use Rattle.std.specs.FinMap.Entries.{by_order}
use Rattle.std.specs.List.{list_any, starts_with}
use Rattle.std.specs.Ordering.{eq_by_cmp, is_eq}
use Rattle.std.specs.Prelude.{is_some}
use Rattle.std.specs.declared.cmp.Ordering.{Ordering}
use Rattle.std.specs.declared.cmp.Ordering.TheVariants.{Less, Equal, Greater}
use Rattle.std.proofs.lemmas.Bool.{or_from, or_left, or_right}
use Rattle.std.proofs.lemmas.Map.Text.{is_eq-slice_cmp}
use Rattle.std.proofs.lemmas.Slice.Eq.{bytes_eq-Decides}
use Rattle.seq_base.specs.World.{World, IsWorld, path_cmp, is_blocked, is_below}

is_equal : (o : Ordering) → is_eq o ≡ true → o ≡ Equal
is_equal Equal h = refl
is_equal Less h = cc
is_equal Greater h = cc

pub same_path : (p q : List ℕ) → eq_by_cmp path_cmp p q ≡ true → p ≡ q
same_path p q h = slice_cmp-IsAntisymmetric nat_cmp-IsAntisymmetric p q (is_equal (path_cmp p q) h)

neither : (a b : Bool) → a || b ≡ false → (a ≡ false) × (b ≡ false)
neither true b h = cc
neither false b h = (refl, h)

-- a test that no path of the list passes, at one of the list
none_passes : (test : List ℕ → Bool) (q : List ℕ) (ks : List (List ℕ)) → list_any (eq_by_cmp path_cmp q) ks ≡ true → list_any test ks ≡ false
    → test q ≡ false
none_passes test q [] there none = cc
none_passes test q (k ∷ ks) there none =
    let parts = neither (test k) (list_any test ks) none in
    elim (eq_by_cmp path_cmp q k) as (λ b. eq_by_cmp path_cmp q k ≡ b → b || list_any (eq_by_cmp path_cmp q) ks ≡ true → test q ≡ false) [
      | true ↦ λ e _. rw (same_path q k e) parts.0
      | false ↦ λ _ h. none_passes test q ks h parts.1
    ] refl there

pub free_of : (w : World) (path file : List ℕ) → is_blocked w path ≡ false → map.contains_key w file ≡ true
    → (is_below path file ≡ false) × (is_below file path ≡ false)
free_of w path file free there =
    neither (is_below path file) (is_below file path)
    (none_passes (λ k. is_below path k || is_below k path) file (map.keys w) (sym (contains_key-keys w file) ∙ there) free)

pub after : (w : World) (path bytes q : List ℕ) (b : Bool) → eq_by_cmp path_cmp q path ≡ b → map.contains_key (map.insert w path bytes) q ≡ true
    → cond b (q ≡ path) (map.contains_key w q ≡ true)
after w path bytes q true e there = same_path q path e
after w path bytes q false e there =
    sym (ap is_some (get-insert nat_list_cmp_total w path bytes q) ∙ ap (λ b. is_some (cond b (Some bytes) (map.get w q))) e) ∙ there

pub equal_to_itself : (p : List ℕ) → eq_by_cmp path_cmp p p ≡ true
equal_to_itself p = is_eq-slice_cmp p p ∙ (bytes_eq-Decides p p).1 refl

-- a test that fails at each path of a list
fails_at_all : (test : List ℕ → Bool) (ks : List (List ℕ)) → ((q : List ℕ) → list_any (eq_by_cmp path_cmp q) ks ≡ true → test q ≡ false)
    → list_any test ks ≡ false
fails_at_all test [] h = refl
fails_at_all test (k ∷ ks) h =
    or_from (test k) (list_any test ks)
    (h k (or_left (eq_by_cmp path_cmp k k) (list_any (eq_by_cmp path_cmp k) ks) (equal_to_itself k)))
    (fails_at_all test ks (λ q there. h q (or_right (eq_by_cmp path_cmp q k) (list_any (eq_by_cmp path_cmp q) ks) there)))

-- a path is free where no file stands in its way
pub free_from : (w : World) (path : List ℕ)
    → ((file : List ℕ) → map.contains_key w file ≡ true → (is_below path file ≡ false) × (is_below file path ≡ false)) → is_blocked w path ≡ false
free_from w path h =
    fails_at_all (λ file. is_below path file || is_below file path) (map.keys w) (λ file among.
    let apart = h file (contains_key-keys w file ∙ among) in or_from (is_below path file) (is_below file path) apart.0 apart.1)

past_end : (p : List ℕ) → slice_index p (length p) ≡ 0
past_end [] = refl
past_end (b ∷ p) = past_end p

not_both : (a : Bool) (b : Bool) → b ≡ false → a && b ≡ false
not_both true b h = h
not_both false b h = refl

not_below_itself : (p : List ℕ) → is_below p p ≡ false
not_below_itself p = not_both (starts_with nat_eq p p) (slice_index p (length p) == 47) (rw (past_end p) refl)

pub stays_world : (w : World) (path bytes : List ℕ) → IsWorld w → is_blocked w path ≡ false → IsWorld (map.insert w path bytes)
stays_world w path bytes shaped free folder file has_folder has_file =
    let a = after w path bytes folder (eq_by_cmp path_cmp folder path) refl has_folder in
    let b = after w path bytes file (eq_by_cmp path_cmp file path) refl has_file in
    elim (eq_by_cmp path_cmp folder path) as (λ s. cond s (folder ≡ path) (map.contains_key w folder ≡ true) → is_below folder file ≡ false) [
      | true ↦ λ same. elim (eq_by_cmp path_cmp file path) as (λ t. cond t (file ≡ path) (map.contains_key w file ≡ true) → is_below folder file ≡ false) [
        | true ↦ λ also. rw (same, also) (not_below_itself path)
        | false ↦ λ there. rw same (free_of w path file free there).0
      ] b
      | false ↦ λ there. elim (eq_by_cmp path_cmp file path) as (λ t. cond t (file ≡ path) (map.contains_key w file ≡ true) → is_below folder file ≡ false) [
        | true ↦ λ also. rw also (free_of w path folder free there).1
        | false ↦ λ file_there. shaped folder file there file_there
      ] b
    ] a

pub there_after_remove : (w : World) (path q : List ℕ) → map.contains_key (map.remove w path) q ≡ true → map.contains_key w q ≡ true
there_after_remove w path q there =
    elim (eq_by_cmp path_cmp q path) as (λ b. is_some (cond b None (map.get w q)) ≡ true → map.contains_key w q ≡ true) [
      | true ↦ λ h. cc
      | false ↦ λ h. h
    ] (sym (ap is_some (get-remove nat_list_cmp_total w path q)) ∙ there)

pub removed_world : (w : World) (path : List ℕ) → IsWorld w → IsWorld (map.remove w path)
removed_world w path shaped folder file has_folder has_file =
    shaped folder file (there_after_remove w path folder has_folder) (there_after_remove w path file has_file)

abbrev mapped : List (List ℕ × List ℕ) → List (List ℕ)
mapped es = Rattle.std.specs.Prelude.map (λ (e : List ℕ × List ℕ). e.0) es

or_false : (a : Bool) → a || false ≡ true → a ≡ true
or_false true h = refl
or_false false h = h

either : (a b : Bool) → a || b ≡ true → (a ≡ true) ⊎ (b ≡ true)
either true b h = inl refl
either false b h = inr h

or_none : (a b : Bool) → a ≡ false → b ≡ false → a || b ≡ false
or_none true b h k = h
or_none false b h k = k

not_true : (b : Bool) → b ≡ false → b ≡ true → ⊥
not_true true h k = cc
not_true false h k = cc

any_put : (test : List ℕ → Bool) (k v : List ℕ) (es : List (List ℕ × List ℕ)) → list_any test (mapped (put path_cmp k v es)) ≡ true
    → (test k ≡ true) ⊎ (list_any test (mapped es) ≡ true)
any_put test k v [] h = inl (or_false (test k) h)
any_put test k v (e ∷ es) h =
    elim (path_cmp k e.0) as (λ o. path_cmp k e.0 ≡ o → list_any test (mapped (by_order o ((k, v) ∷ e ∷ es) ((e.0, v) ∷ es) (e ∷ put path_cmp k v es))) ≡ true → (test k ≡ true) ⊎ (test e.0 || list_any test (mapped es) ≡ true)) [
      | Less ↦ λ _ h. either (test k) _ h
      | Equal ↦ λ _ h. inr h
      | Greater ↦ λ _ h. elim (either (test e.0) _ h) [
        | inl here ↦ inr (rw here refl)
        | inr there ↦ elim (any_put test k v es there) [ inl new ↦ inl new | inr old ↦ inr (or_right (test e.0) _ old) ]
      ]
    ] refl h

-- a put elsewhere leaves a path free
pub still_free : (w : World) (path bytes other : List ℕ) → is_blocked w other ≡ false → is_below other path ≡ false → is_below path other ≡ false
    → is_blocked (map.insert w path bytes) other ≡ false
still_free w path bytes other free below above =
    let test : List ℕ → Bool = λ file. is_below other file || is_below file other in
    elim (is_blocked (map.insert w path bytes) other) as (λ b. is_blocked (map.insert w path bytes) other ≡ b → b ≡ false) [
      | false ↦ λ _. refl
      | true ↦ λ e. elim (any_put test path bytes (entries w) (sym (ap (λ es. list_any test (mapped es)) (entries-insert nat_list_cmp_total w path bytes)) ∙ e)) [
        | inl new ↦ absurd (not_true (test path) (or_none (is_below other path) (is_below path other) below above) new)
        | inr old ↦ absurd (not_true (is_blocked w other) free old)
      ]
    ] refl
