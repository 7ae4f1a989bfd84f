-- The files that are found are those of the folders and heads of a list.
use Rattle.std.proofs.Common.{◌≡◌, ◌⊎◌, inl, inr, Bool, true, false, cond, List, [], ◌∷◌, ◌++◌, Option, Some, None, refl, sym, ap, ◌∙◌}
use Rattle.std.specs.Prelude.{◌&&◌, ◌||◌, codes, filter, is_some}
use Rattle.std.specs.FinMap as map
use Rattle.std.specs.FinMap.{contains_key-keys}
use Rattle.std.specs.List.{list_any}
use Rattle.std.specs.Str.{bytes_eq}
use Rattle.std.proofs.lemmas.Slice.Eq.{bytes_eq-Decides}
use Rattle.seq_base.specs.StatePaths.{is_state_path, state_heads}
use Rattle.seq_base.specs.Words.{Path, Text}
use Rattle.seq_base.specs.World.{World, is_below}
use Rattle.seq_base.proofs.Shape.{equal_to_itself, same_path}
use Rattle.state_text.specs.Stops.{is_listed, is_path}
use Rattle.reading.specs.State.{is_list_file}
use Rattle.seq_state.specs.Found.{HoldsListFiles, HoldsStateFiles}

pub listed_both : (xs ys : List Path) (q : Path) → is_listed (xs ++ ys) q ≡ (is_listed xs q || is_listed ys q)
listed_both [] ys q = refl
listed_both (x ∷ xs) ys q = ap (λ (b : Bool). is_path q x || b) (listed_both xs ys q) ∙ at (is_path q x)
  where
    at : (b : Bool) → (b || (is_listed xs q || is_listed ys q)) ≡ ((b || is_listed xs q) || is_listed ys q)
    at true = refl
    at false = refl

-- what is chosen of paths
pub chosen_listed : (test : Path → Bool) (ps : List Path) (q : Path) → is_listed (filter test ps) q ≡ (test q && is_listed ps q)
chosen_listed test [] q = none (test q)
  where
    none : (b : Bool) → false ≡ (b && false)
    none true = refl
    none false = refl
chosen_listed test (p ∷ ps) q = at (is_path q p) refl (test p) refl (chosen_listed test ps q)
  where
    at : (same : Bool) → is_path q p ≡ same → (b : Bool) → test p ≡ b → is_listed (filter test ps) q ≡ (test q && is_listed ps q)
        → is_listed (cond b (p ∷ filter test ps) (filter test ps)) q ≡ (test q && (same || is_listed ps q))
    at true are true is later =
        let passes : test q ≡ true = ap test (same_path q p are) ∙ is in
        ap (λ (b : Bool). b || is_listed (filter test ps) q) are ∙ sym (ap (λ (b : Bool). b && true) passes)
    at true are false is later =
        let fails : test q ≡ false = ap test (same_path q p are) ∙ is in
        later ∙ ap (λ (b : Bool). b && is_listed ps q) fails ∙ sym (ap (λ (b : Bool). b && true) fails)
    at false are true is later = ap (λ (b : Bool). b || is_listed (filter test ps) q) are ∙ later
    at false are false is later = later

-- the files of a folder
below_listed : (w : World) (folder q : Path) → is_listed (filter (is_below folder) (map.keys w)) q ≡ (is_below folder q && is_some (map.get w q))
below_listed w folder q =
    chosen_listed (is_below folder) (map.keys w) q ∙ ap (λ (b : Bool). is_below folder q && b) (sym (contains_key-keys w q))

same_bytes : (a b : Path) → is_path a b ≡ bytes_eq b a
same_bytes a b = at (is_path a b) refl (bytes_eq b a) refl
  where
    at : (x : Bool) → is_path a b ≡ x → (y : Bool) → bytes_eq b a ≡ y → x ≡ y
    at true e true f = refl
    at false e false f = refl
    at true e false f =
        let same : a ≡ b = same_path a b e in
        let law = bytes_eq-Decides b a in
        sym (law.1 (sym same)) ∙ f
    at false e true f =
        let law = bytes_eq-Decides b a in
        let same : b ≡ a = law.0 f in
        sym e ∙ ap (λ (p : Path). is_path a p) same ∙ equal_to_itself a

heads_listed : (ps : List Path) (q : Path) → is_listed ps q ≡ list_any (λ head. bytes_eq head q) ps
heads_listed [] q = refl
heads_listed (p ∷ ps) q = ap (λ (b : Bool). b || is_listed ps q) (same_bytes q p) ∙ ap (λ (b : Bool). bytes_eq p q || b) (heads_listed ps q)

-- ---- a list

abbrev list_paths : World → List Path
list_paths w = (filter (is_below (codes ".git/rebase-merge")) (map.keys w) ++ filter (is_below (codes ".git/sequencer")) (map.keys w)) ++ state_heads

list_listed : (w : World) (q : Path)
    → is_listed (list_paths w) q
    ≡ (((is_below (codes ".git/rebase-merge") q && is_some (map.get w q)) || (is_below (codes ".git/sequencer") q && is_some (map.get w q)))
    || list_any (λ head. bytes_eq head q) state_heads)
list_listed w q =
    let xs = filter (is_below (codes ".git/rebase-merge")) (map.keys w) in
    let ys = filter (is_below (codes ".git/sequencer")) (map.keys w) in
    listed_both (xs ++ ys) state_heads q
    ∙ ap (λ (b : Bool). b || is_listed state_heads q)
    (listed_both xs ys q ∙ ap (λ (b : Bool). b || is_listed ys q) (below_listed w (codes ".git/rebase-merge") q)
    ∙ ap (λ (b : Bool). (is_below (codes ".git/rebase-merge") q && is_some (map.get w q)) || b) (below_listed w (codes ".git/sequencer") q))
    ∙ ap (λ (b : Bool). ((is_below (codes ".git/rebase-merge") q && is_some (map.get w q)) || (is_below (codes ".git/sequencer") q && is_some (map.get w q))) || b)
    (heads_listed state_heads q)

found_or_none : (a b h l : Bool) (there : Option Text) → l ≡ (((a && is_some there) || (b && is_some there)) || h) → ((a || b) || h) ≡ true
    → (l ≡ true) ⊎ (there ≡ None)
found_or_none a b h l None e is = inr refl
found_or_none a b h l (Some text) e is = inl (e ∙ at a b is)
  where
    at : (a b : Bool) → ((a || b) || h) ≡ true → (((a && true) || (b && true)) || h) ≡ true
    at true b is = refl
    at false true is = refl
    at false false is = is

found_only : (a b h c l : Bool) → l ≡ (((a && c) || (b && c)) || h) → l ≡ true → ((a || b) || h) ≡ true
found_only true b h c l e is = refl
found_only false true h c l e is = refl
found_only false false h c l e is = sym e ∙ is

pub list_found : (w : World) (paths : List Path) → paths ≡ list_paths w → HoldsListFiles w paths
list_found w paths are = record {
  holds = λ q is.
      found_or_none (is_below (codes ".git/rebase-merge") q) (is_below (codes ".git/sequencer") q) (list_any (λ head. bytes_eq head q) state_heads) (is_listed paths q)
      (map.get w q) (ap (λ (ps : List Path). is_listed ps q) are ∙ list_listed w q) is;
  only = λ q is.
      found_only (is_below (codes ".git/rebase-merge") q) (is_below (codes ".git/sequencer") q) (list_any (λ head. bytes_eq head q) state_heads)
      (is_some (map.get w q)) (is_listed paths q) (ap (λ (ps : List Path). is_listed ps q) are ∙ list_listed w q) is;
}

-- ---- and its labels

state_parts : (a b d h : Bool) → ((a || (b || (d || false))) || h) ≡ (((a || b) || h) || d)
state_parts true b d h = refl
state_parts false true d h = refl
state_parts false false true h = at h
  where
    at : (h : Bool) → true ≡ (h || true)
    at true = refl
    at false = refl
state_parts false false false h = at h
  where
    at : (h : Bool) → h ≡ (h || false)
    at true = refl
    at false = refl

state_path_is : (q : Path) → is_state_path q ≡ (is_list_file q || is_below (codes ".git/refs/rewritten") q)
state_path_is q =
    state_parts (is_below (codes ".git/rebase-merge") q) (is_below (codes ".git/sequencer") q) (is_below (codes ".git/refs/rewritten") q)
    (list_any (λ head. bytes_eq head q) state_heads)

or_held : (w : World) (q : Path) (l d x : Bool) → l ≡ (x || (d && is_some (map.get w q))) → (f : Bool) → (f ≡ true → (x ≡ true) ⊎ (map.get w q ≡ None))
    → (f || d) ≡ true → (l ≡ true) ⊎ (map.get w q ≡ None)
or_held w q l d x e true held is = at (held refl)
  where
    at : (x ≡ true) ⊎ (map.get w q ≡ None) → (l ≡ true) ⊎ (map.get w q ≡ None)
    at (inl so) = inl (e ∙ ap (λ (b : Bool). b || (d && is_some (map.get w q))) so)
    at (inr none) = inr none
or_held w q l d x e false held is = at (map.get w q) refl
  where
    last : (x : Bool) → (x || true) ≡ true
    last true = refl
    last false = refl

    at : (o : Option Text) → map.get w q ≡ o → (l ≡ true) ⊎ (map.get w q ≡ None)
    at None none = inr none
    at (Some text) some =
        inl (e ∙ ap (λ (b : Bool). x || (b && is_some (map.get w q))) is ∙ ap (λ (o : Option Text). x || is_some o) some ∙ last x)

or_only : (l d x c : Bool) → l ≡ (x || (d && c)) → (f : Bool) → (x ≡ true → f ≡ true) → l ≡ true → (f || d) ≡ true
or_only l d x c e true only is = refl
or_only l true x c e false only is = refl
or_only l false true c e false only is = only refl
or_only l false false c e false only is = sym e ∙ is

pub state_found : (w : World) (list paths : List Path) → HoldsListFiles w list
    → paths ≡ list ++ filter (is_below (codes ".git/refs/rewritten")) (map.keys w) → HoldsStateFiles w paths
state_found w list paths found are = record {
  holds = λ q is.
      or_held w q (is_listed paths q) (is_below (codes ".git/refs/rewritten") q) (is_listed list q) (listed q) (is_list_file q) (found.holds q)
      (sym (state_path_is q) ∙ is);
  only = λ q is.
      state_path_is q
      ∙ or_only (is_listed paths q) (is_below (codes ".git/refs/rewritten") q) (is_listed list q) (is_some (map.get w q)) (listed q) (is_list_file q)
      (found.only q) is;
}
  where
    listed : (q : Path) → is_listed paths q ≡ (is_listed list q || (is_below (codes ".git/refs/rewritten") q && is_some (map.get w q)))
    listed q =
        ap (λ (ps : List Path). is_listed ps q) are ∙ listed_both list (filter (is_below (codes ".git/refs/rewritten")) (map.keys w)) q
        ∙ ap (λ (b : Bool). is_listed list q || b) (below_listed w (codes ".git/refs/rewritten") q)

-- the heads, one after another
pub heads_pushed : (paths one two three four all : List Path) → one ≡ paths ++ codes ".git/MERGE_MSG" ∷ [] → two ≡ one ++ codes ".git/MERGE_HEAD" ∷ []
    → three ≡ two ++ codes ".git/REBASE_HEAD" ∷ [] → four ≡ three ++ codes ".git/CHERRY_PICK_HEAD" ∷ [] → all ≡ four ++ codes ".git/REVERT_HEAD" ∷ []
    → all ≡ paths ++ state_heads
heads_pushed paths one two three four all a b c d e =
    e ∙ ap (λ (ps : List Path). ps ++ codes ".git/REVERT_HEAD" ∷ [])
    (d ∙ ap (λ (ps : List Path). ps ++ codes ".git/CHERRY_PICK_HEAD" ∷ [])
    (c ∙ ap (λ (ps : List Path). ps ++ codes ".git/REBASE_HEAD" ∷ []) (b ∙ ap (λ (ps : List Path). ps ++ codes ".git/MERGE_HEAD" ∷ []) a)))
    ∙ pushed paths
  where
    pushed : (ps : List Path)
        → ((((ps ++ codes ".git/MERGE_MSG" ∷ []) ++ codes ".git/MERGE_HEAD" ∷ []) ++ codes ".git/REBASE_HEAD" ∷ []) ++ codes ".git/CHERRY_PICK_HEAD" ∷ [])
        ++ codes ".git/REVERT_HEAD" ∷ [] ≡ ps ++ state_heads
    pushed [] = refl
    pushed (p ∷ ps) = ap (λ (qs : List Path). p ∷ qs) (pushed ps)
