-- The test of patterns and the function of rule files say what the relations say.
use Rattle.std.proofs.Common.{◌≡◌, ℕ, zero, suc, ◌+◌, ◌≤◌, Bool, true, false, cond, List, [], ◌∷◌, length, drop, take, Option, Some, None, refl, ap, subst, ◌∙◌, arith, length-drop}
use Rattle.std.specs.Prelude.{◌&&◌, unwrap_or}
use Rattle.std.specs.Option.{option_and_then, option_map, option_map_or, option_or}
use Rattle.attr_rules.specs.declared.attribute.MergeAttr.{MergeAttr}
use Rattle.attr_rules.specs.declared.attribute.MergeAttr.TheVariants.{Unspecified}
use Rattle.attr_rules.specs.declared.letter.Letter.{Letter}
use Rattle.attr_rules.specs.declared.rules.Line.{Line}
use Rattle.attr_rules.specs.Attributes.{defines, last_said, macros_of, said}
use Rattle.attr_rules.specs.Deciding.{are_fit, are_taken, attribute_of, file_says, files_say, is_match, line_says, lines_say, pieces_in}
use Rattle.attr_rules.specs.Letters.{is_plain, letters_from}
use Rattle.attr_rules.specs.Matches.{Fits, Matches, ends_in_slash, looked_at, without_slash}
use Rattle.attr_rules.specs.MergeAttrs.{FileSaysAt, FilesSay, IsMergeAttr, LineSays, LinesSay, below}
use Rattle.attr_rules.specs.Pieces.{AnyByte, Byte, Cut, Everything, Folders, OneOf, Piece, Star, cut, ends_part, piece_at, set_at, set_or_others_at, set_up_to, star_at}
use Rattle.attr_rules.specs.Rules.{RuleFile}
use Rattle.attr_rules.proofs.Fitting.{all_taken, take_all}

-- ---- a piece leaves fewer letters

either : {X : Type 0} (t : Bool) (a b : Option X) (found : X) (P : X → Type 0) → (a ≡ Some found → P found) → (b ≡ Some found → P found)
    → cond t a b ≡ Some found → P found
either true a b found P f g e = f e
either false a b found P f g e = g e

cut_leaves : (p : Piece) (behind : List Letter) (found : Piece × List Letter) (n : ℕ) → length behind ≤ n → cut p behind ≡ Some found
    → length found.1 ≤ n
cut_leaves p behind found n le e = let k : (p, behind) ≡ found = cc in subst (λ (x : Piece × List Letter). length x.1 ≤ n) k le

star_leaves : (begins : Bool) (rest : List Letter) (found : Piece × List Letter) → star_at begins rest ≡ Some found → length found.1 ≤ length rest
star_leaves begins [] found e = cut_leaves Star [] found 0 (omega arith) e
star_leaves begins (a ∷ []) found e =
    either (begins && is_plain a 42) (cut Everything []) (cut Star (a ∷ [])) found (λ x. length x.1 ≤ length (a ∷ []))
    (cut_leaves Everything [] found (length (a ∷ [])) (omega arith)) (cut_leaves Star (a ∷ []) found (length (a ∷ [])) (omega arith)) e
star_leaves begins (a ∷ b ∷ rest) found e =
    either (begins && is_plain a 42 && is_plain b 47) (cut Folders rest) (cut Star (a ∷ b ∷ rest)) found (λ x. length x.1 ≤ length (a ∷ b ∷ rest))
    (cut_leaves Folders rest found (length (a ∷ b ∷ rest)) (omega arith)) (cut_leaves Star (a ∷ b ∷ rest) found (length (a ∷ b ∷ rest)) (omega arith)) e

up_to_leaves : (negated : Bool) (letters : List Letter) (place : Option ℕ) (found : Piece × List Letter)
    → set_up_to negated letters place ≡ Some found → length found.1 ≤ length letters
up_to_leaves negated letters None found e = absurd cc
up_to_leaves negated letters (Some n) found e =
    cut_leaves (OneOf negated (take (n + 1) letters)) (drop (n + 2) letters) found (length letters) (omega (arith, length-drop (n + 2) letters)) e

set_leaves : (negated : Bool) (letters : List Letter) (found : Piece × List Letter) → set_at negated letters ≡ Some found
    → length found.1 ≤ length letters
set_leaves negated [] found e = absurd cc
set_leaves negated (first ∷ rest) found e = up_to_leaves negated (first ∷ rest) _ found e

others_leave : (letters : List Letter) (found : Piece × List Letter) → set_or_others_at letters ≡ Some found → length found.1 ≤ length letters
others_leave [] found e = absurd cc
others_leave (a ∷ rest) found e =
    either _ (set_at true rest) (set_at false (a ∷ rest)) found (λ x. length x.1 ≤ length (a ∷ rest))
    (λ f. let k = set_leaves true rest found f in omega arith) (set_leaves false (a ∷ rest) found) e

piece_leaves : (begins : Bool) (a : Letter) (rest : List Letter) (found : Piece × List Letter) → piece_at begins (a ∷ rest) ≡ Some found
    → length found.1 ≤ length rest
piece_leaves begins a rest found e =
    either (is_plain a 42) (star_at begins rest) _ found (λ x. length x.1 ≤ length rest) (star_leaves begins rest found)
    (either (is_plain a 63) (cut AnyByte rest) _ found (λ x. length x.1 ≤ length rest) (cut_leaves AnyByte rest found (length rest) (omega arith))
    (either (is_plain a 91) (set_or_others_at rest) (cut (Byte a.byte) rest) found (λ x. length x.1 ≤ length rest) (others_leave rest found)
    (cut_leaves (Byte a.byte) rest found (length rest) (omega arith)))) e

-- ---- the pieces of letters

pub pieces_cut : (n : ℕ) (begins : Bool) (letters : List Letter) (ps : List Piece) → pieces_in n begins letters ≡ Some ps → Cut begins letters ps
unfolding pieces_in
pieces_cut n begins [] ps e = let k : [] ≡ ps = cc in subst (λ (xs : List Piece). Cut begins [] xs) k refl
pieces_cut zero begins (a ∷ rest) ps e = absurd cc
pieces_cut (suc n) begins (a ∷ rest) ps e = at (pieces_cut n) (piece_at begins (a ∷ rest)) refl e
  where
    within : ((next : Bool) (letters : List Letter) (qs : List Piece) → pieces_in n next letters ≡ Some qs → Cut next letters qs)
        → (found : Piece × List Letter) → piece_at begins (a ∷ rest) ≡ Some found → (later : Option (List Piece)) → pieces_in n (ends_part found.0) found.1 ≡ later
        → option_map (λ qs. found.0 ∷ qs) later ≡ Some ps → Cut begins (a ∷ rest) ps
    within go found is None below_is e = absurd cc
    within go found is (Some qs) below_is e =
        let k : found.0 ∷ qs ≡ ps = cc in
        subst (λ (xs : List Piece). Cut begins (a ∷ rest) xs) k (found.1, is, go (ends_part found.0) found.1 qs below_is)

    at : ((next : Bool) (letters : List Letter) (qs : List Piece) → pieces_in n next letters ≡ Some qs → Cut next letters qs)
        → (piece : Option (Piece × List Letter)) → piece_at begins (a ∷ rest) ≡ piece
        → option_and_then (λ found. option_map (λ qs. found.0 ∷ qs) (pieces_in n (ends_part found.0) found.1)) piece ≡ Some ps → Cut begins (a ∷ rest) ps
    at go None is e = absurd cc
    at go (Some found) is e = within go found is (pieces_in n (ends_part found.0) found.1) refl e

pub cut_pieces : (n : ℕ) (begins : Bool) (letters : List Letter) (ps : List Piece) → length letters ≤ n → Cut begins letters ps
    → pieces_in n begins letters ≡ Some ps
unfolding pieces_in
cut_pieces n begins [] [] le c = refl
cut_pieces n begins [] (p ∷ ps) le c = let e = c.1 in absurd cc
cut_pieces zero begins (a ∷ rest) ps le c = absurd (omega (arith, le))
cut_pieces (suc n) begins (a ∷ rest) [] le c = absurd cc
cut_pieces (suc n) begins (a ∷ rest) (p ∷ ps) le c =
    let fewer = piece_leaves begins a rest (p, c.0) c.1 in
    let later = cut_pieces n (ends_part p) c.0 ps (omega arith) c.2 in
    ap (option_and_then (λ (found : Piece × List Letter). option_map (λ (qs : List Piece). found.0 ∷ qs) (pieces_in n (ends_part found.0) found.1))) c.1
    ∙ ap (option_map (λ (qs : List Piece). p ∷ qs)) later

-- ---- patterns

fits_test : (letters : List Letter) (text : List ℕ) → are_fit letters text ≡ true → Fits letters text
fits_test letters text e = at (pieces_in (length letters) true letters) refl e
  where
    at : (found : Option (List Piece)) → pieces_in (length letters) true letters ≡ found → option_map_or (λ ps. are_taken ps text) found false ≡ true
        → Fits letters text
    at None is e = absurd cc
    at (Some ps) is e = (ps, pieces_cut (length letters) true letters ps is, take_all ps text e)

test_fits : (letters : List Letter) (text : List ℕ) → Fits letters text → are_fit letters text ≡ true
test_fits letters text f =
    ap (λ (found : Option (List Piece)). option_map_or (λ ps. are_taken ps text) found false) (cut_pieces (length letters) true letters f.0 (omega arith) f.1)
    ∙ all_taken f.0 text f.2

pub match_matches : (pattern path : List ℕ) → is_match pattern path ≡ true → Matches pattern path
unfolding is_match
match_matches pattern path e = at (ends_in_slash pattern) refl (letters_from false (without_slash pattern)) refl e
  where
    at : (slash : Bool) → ends_in_slash pattern ≡ slash → (found : Option (List Letter)) → letters_from false (without_slash pattern) ≡ found
        → cond slash false (option_map_or (λ letters. are_fit letters (looked_at pattern path)) found false) ≡ true → Matches pattern path
    at true is found spelled e = absurd cc
    at false is None spelled e = absurd cc
    at false is (Some letters) spelled e =
        record { for_files = is; letters = letters; spelled = spelled; fits = fits_test letters (looked_at pattern path) e }

pub matches_match : (pattern path : List ℕ) → Matches pattern path → is_match pattern path ≡ true
unfolding is_match
matches_match pattern path m =
    ap (λ (slash : Bool). cond slash false (option_map_or (λ letters. are_fit letters (looked_at pattern path)) (letters_from false (without_slash pattern)) false)) m.for_files
    ∙ ap (λ (found : Option (List Letter)). option_map_or (λ letters. are_fit letters (looked_at pattern path)) found false) m.spelled
    ∙ test_fits m.letters (looked_at pattern path) m.fits

-- ---- lines and files

module _ (says : List ℕ → Option MergeAttr) where
  line_is : (path : List ℕ) (line : Line) (found : Option MergeAttr) → LineSays says path line found → found ≡ line_says says path line
  line_is path line found h = at (defines line.pattern) refl (is_match line.pattern path) refl
    where
      at : (d : Bool) → defines line.pattern ≡ d → (m : Bool) → is_match line.pattern path ≡ m
          → found ≡ cond d None (cond m (last_said says line.attributes) None)
      at true is m fits = h.passed (λ f. let k = f.rule in absurd cc)
      at false is true fits = h.applies (record { rule = is; fits = match_matches line.pattern path fits })
      at false is false fits = h.passed (λ f. let k = matches_match line.pattern path f.fits in absurd cc)

  lines_are : (path : List ℕ) (lines : List Line) (found : Option MergeAttr) → LinesSay says path lines found → found ≡ lines_say says path lines
  lines_are path [] found h = h
  lines_are path (line ∷ lines) found h =
      let here = line_is path line h.0 h.2 in
      let later = lines_are path lines h.1 h.3 in
      h.4 ∙ ap (λ (o : Option MergeAttr). option_or o h.0) later ∙ ap (option_or (lines_say says path lines)) here

  file_is_at : (path : Option (List ℕ)) (lines : List Line) (found : Option MergeAttr) → FileSaysAt says path lines found
      → found ≡ option_and_then (λ rest. lines_say says rest lines) path
  file_is_at None lines found h = h
  file_is_at (Some path) lines found h = lines_are path lines found h

  files_are : (path : List ℕ) (files : List RuleFile) (found : Option MergeAttr) → FilesSay says path files found → found ≡ files_say says path files
  files_are path [] found h = h
  files_are path (file ∷ weaker) found h =
      let here : h.0 ≡ file_says says path file = file_is_at (below file.folder path) file.lines h.0 h.2 in
      let others = files_are path weaker h.1 h.3 in
      h.4 ∙ ap (λ (o : Option MergeAttr). option_or o h.1) here ∙ ap (option_or (file_says says path file)) others

-- rule files give a path no other attribute
pub attribute_is : (files : List RuleFile) (path : List ℕ) (attribute : MergeAttr) → IsMergeAttr files path attribute
    → attribute ≡ attribute_of files path
unfolding attribute_of
attribute_is files path attribute h =
    h.is ∙ ap (λ (o : Option MergeAttr). unwrap_or o Unspecified) (files_are (said (macros_of files)) path files h.found h.say)
