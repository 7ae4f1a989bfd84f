-- Files of lines are recalled.
use Rattle.std.proofs.Common.{◌≡◌, ◌∙◌, ℕ, Bool, true, false, cond, eqb, not, List, [], ◌∷◌, ◌++◌, map, Option, Some, None, Result, Ok, Err, refl, sym, ap, subst, append_assoc}
use Rattle.std.specs.Prelude.{◌||◌, ◌==◌, codes}
use Rattle.std.specs.List.{AllByRecursion, cons_option, filter_map, flat_map, list_all}
use Rattle.std.proofs.lemmas.Bool.{and_parts, eqb-true, not-true}
use Rattle.std.proofs.lemmas.List.{append-nil}
use Rattle.hex.specs.Hex.{encode_lower, is_hex_digit}
use Rattle.grammar.specs.Readers.{literal_at, passing_at}
use Rattle.ident_text.specs.Ids.{id_digits_from, id_from}
use Rattle.ident_text.proofs.IdLaws.{spelled_digits}
use Rattle.message_text.specs.declared.chain.ChainKind.{ChainKind}
use Rattle.message_text.specs.declared.chain.ChainKind.TheVariants as chain
use Rattle.message_text.specs.Kinds.{is_first}
use Rattle.object_text.specs.Commits.{line}
use Rattle.seq_base.specs.Ids.{IsId}
use Rattle.seq_base.proofs.RefPaths.{below_refs}
use Rattle.seq_base.specs.RefNames.{IsRefName, is_below_refs, is_ref_byte, is_ref_name}
use Rattle.std.specs.Str.{bytes_eq}
use Rattle.std.proofs.lemmas.Slice.Eq.{bytes_eq-Decides}
use Rattle.state_text.specs.Controls.{IsChain, IsLabel}
use Rattle.state_text.specs.Texts.{chain_text, chain_word, label_text, pair_text}
use Rattle.todo_text.specs.Spells.{HasNoFeed}
use Rattle.state_reading.specs.Lines.{AreItems, IsIdPair, IsItem, behind, chain_of, goes_on, id_at, id_behind, ids_text, is_chain, item_at, item_behind, item_of, items_text, label_at, labels_text, lines_from, lines_of, or_item, pair_at, pair_behind, pairs_text, read_pair}
use Rattle.state_reading.specs.Recalls.{Recalls}
use Rattle.state_reading.proofs.KeyLaws.{id_again, id_before, id_fits, id_taken, key_again, key_takes, spelled}

-- ---- the lines of a text

line_through : (ls : List (List ℕ)) (l x t : List ℕ) → HasNoFeed x → lines_from ls l (x ++ 10 ∷ t) ≡ lines_from (ls ++ (l ++ x) ∷ []) [] t
line_through ls l [] t plain = ap (λ (v : List ℕ). lines_from (ls ++ v ∷ []) [] t) (sym (append-nil l))
line_through ls l (b ∷ x) t plain =
    let k = and_parts (not (b == 10)) (list_all (λ c. not (c == 10)) x) plain in
    let other : eqb b 10 ≡ false = not-true (eqb b 10) k.0 in
    rw other (line_through ls (l ++ b ∷ []) x t k.1 ∙ ap (λ (v : List ℕ). lines_from (ls ++ v ∷ []) [] t) (append_assoc l (b ∷ []) x))

pub lines_back : (ls xs : List (List ℕ)) → AllByRecursion HasNoFeed xs → lines_from ls [] (flat_map line xs) ≡ ls ++ xs
lines_back ls [] plain = sym (append-nil ls)
lines_back ls (x ∷ xs) plain =
    ap (λ (t : List ℕ). lines_from ls [] t) (append_assoc x (10 ∷ []) (flat_map line xs))
    ∙ line_through ls [] x (flat_map line xs) plain.0
    ∙ lines_back (ls ++ x ∷ []) xs plain.1
    ∙ append_assoc ls (x ∷ []) xs

-- lines that are each read again are recalled
module _ {X : Type 0} (IsFit : X → Type 0) (text : X → List ℕ) (read : List ℕ → Option X)
    (plain : (x : X) → IsFit x → HasNoFeed (text x)) (fit : (t : List ℕ) (x : X) → read t ≡ Some x → IsFit x) (again : (x : X) → IsFit x → read (text x) ≡ Some x)
  where
    all_plain : (xs : List X) → AllByRecursion IsFit xs → AllByRecursion HasNoFeed (map text xs)
    all_plain [] fits = tt
    all_plain (x ∷ xs) fits = (plain x fits.0, all_plain xs fits.1)

    joined : (xs : List X) → flat_map line (map text xs) ≡ flat_map (λ x. line (text x)) xs
    joined [] = refl
    joined (x ∷ xs) = ap (λ (t : List ℕ). line (text x) ++ t) (joined xs)

    all_read : (xs : List X) → AllByRecursion IsFit xs → filter_map read (map text xs) ≡ xs
    all_read [] fits = refl
    all_read (x ∷ xs) fits =
        ap (λ (o : Option X). cons_option o (filter_map read (map text xs))) (again x fits.0) ∙ ap (λ (ys : List X). x ∷ ys) (all_read xs fits.1)

    pub all_fit : (ts : List (List ℕ)) → AllByRecursion IsFit (filter_map read ts)
    all_fit [] = tt
    all_fit (t ∷ ts) = at (read t) refl (all_fit ts)
      where
        at : (o : Option X) → read t ≡ o → AllByRecursion IsFit (filter_map read ts) → AllByRecursion IsFit (cons_option o (filter_map read ts))
        at None e later = later
        at (Some x) e later = (fit t x e, later)

    pub read_back : (bytes : List ℕ) (xs : List X) → AllByRecursion IsFit xs → bytes ≡ flat_map (λ x. line (text x)) xs
        → filter_map read (lines_of bytes) ≡ xs
    read_back bytes xs fits is =
        ap (λ (t : List ℕ). filter_map read (lines_of t)) (is ∙ sym (joined xs))
        ∙ ap (filter_map read) (lines_back [] (map text xs) (all_plain xs fits))
        ∙ all_read xs fits

    pub recalled : (bytes : List ℕ) (xs : List X) → xs ≡ filter_map read (lines_of bytes)
        → Recalls (AllByRecursion IsFit) (λ ys. flat_map (λ x. line (text x)) ys) bytes xs
    recalled bytes xs e = record {
      fits = subst (AllByRecursion IsFit) (sym e) (all_fit (lines_of bytes));
      again = λ ys fits is. e ∙ read_back bytes ys fits is;
    }

-- ---- texts without a line feed

module _ (passes : ℕ → Bool) (none : passes 10 ≡ false) where
  pub passing_plain : (t : List ℕ) → list_all passes t ≡ true → HasNoFeed t
  passing_plain [] all = refl
  passing_plain (b ∷ t) all =
      let k = and_parts (passes b) (list_all passes t) all in
      let first = at (eqb b 10) refl k.0 in
      rw first (passing_plain t k.1)
    where
      at : (v : Bool) → eqb b 10 ≡ v → passes b ≡ true → not v ≡ true
      at true is on =
          let b-is : b ≡ 10 = eqb-true b 10 is in
          let no : passes 10 ≡ true = ap passes (sym b-is) ∙ on in
          absurd cc
      at false is on = refl

pub id_plain : (id : List ℕ) → IsId id → HasNoFeed (encode_lower id)
id_plain id is = passing_plain is_hex_digit refl (encode_lower id) (spelled_digits id (encode_lower id) (spelled id is)).hex

pub both_plain : (a b : List ℕ) → HasNoFeed a → HasNoFeed b → HasNoFeed (a ++ b)
both_plain [] b one two = two
both_plain (x ∷ a) b one two =
    let k = and_parts (not (x == 10)) (list_all (λ c. not (c == 10)) a) one in
    let first = k.0 in
    rw first (both_plain a b k.1 two)

pub ref_plain : (name : List ℕ) → IsRefName name → HasNoFeed name
ref_plain name is = at (bytes_eq name (codes "HEAD")) refl is
  where
    at : (b : Bool) → bytes_eq name (codes "HEAD") ≡ b → (b || is_below_refs name) ≡ true → HasNoFeed name
    at true same is = let name-is = (bytes_eq-Decides name (codes "HEAD")).0 same in subst (λ (t : List ℕ). HasNoFeed t) (sym name-is) refl
    at false same is = passing_plain is_ref_byte refl name (below_refs name is).bytes

-- ---- ids

pub ids_recalled : (bytes : List ℕ) (read ids : List (List ℕ)) → ids ≡ read → read ≡ filter_map id_at (lines_of bytes)
    → Recalls (AllByRecursion IsId) ids_text bytes ids
ids_recalled bytes read ids same is = recalled IsId encode_lower id_at id_plain id_fits id_again bytes ids (same ∙ is)

-- ---- pairs

pair_plain : (pair : List ℕ × List ℕ) → IsIdPair pair → HasNoFeed (pair_text pair)
pair_plain pair is = both_plain (encode_lower pair.0) (32 ∷ encode_lower pair.1) (id_plain pair.0 is.0) (id_plain pair.1 is.1)

pair_again : (pair : List ℕ × List ℕ) → IsIdPair pair → pair_at (pair_text pair) ≡ Some pair
pair_again pair is =
    ap read_pair (id_before pair.0 (32 ∷ encode_lower pair.1) is.0)
    ∙ ap (λ (o : Option (List ℕ)). elim o as (λ _. Option (List ℕ × List ℕ)) [ None ↦ None | Some id ↦ Some (pair.0, id) ]) (id_again pair.1 is.1)

pair_fits : (l : List ℕ) (pair : List ℕ × List ℕ) → pair_at l ≡ Some pair → IsIdPair pair
pair_fits l pair e = at (id_from l) refl e
  where
    second : (old : List ℕ) (rest : List ℕ) → IsId old → pair_behind old rest ≡ Some pair → IsIdPair pair
    second old [] is e = absurd cc
    second old (b ∷ new) is e = by (id_at new) refl e
      where
        by : (o : Option (List ℕ)) → id_at new ≡ o → Rattle.std.specs.Option.option_map (λ (id : List ℕ). (old, id)) o ≡ Some pair → IsIdPair pair
        by None found e = absurd cc
        by (Some id) found e =
            let pair-is : (old, id) ≡ pair = cc in
            subst IsIdPair pair-is (is, id_fits new id found)

    at : (r : Result (List ℕ × List ℕ) ℕ) → id_from l ≡ r → read_pair r ≡ Some pair → IsIdPair pair
    at (Ok x) is e = second x.0 x.1 (id_taken l x.0 x.1 is) e
    at (Err left) is e = absurd cc

pub pairs_recalled : (bytes : List ℕ) (read pairs : List (List ℕ × List ℕ)) → pairs ≡ read → read ≡ filter_map pair_at (lines_of bytes)
    → Recalls (AllByRecursion IsIdPair) pairs_text bytes pairs
pairs_recalled bytes read pairs same is = recalled IsIdPair pair_text pair_at pair_plain pair_fits pair_again bytes pairs (same ∙ is)

-- ---- labels

label_plain : (name : List ℕ) → IsLabel name → HasNoFeed (label_text name)
label_plain name is = ref_plain (label_text name) is

label_again : (name : List ℕ) → IsLabel name → label_at (label_text name) ≡ Some name
label_again name is = rw is (key_again (codes "refs/rewritten/") name)

label_fits : (l name : List ℕ) → label_at l ≡ Some name → IsLabel name
label_fits l name e = at (is_ref_name l) refl e
  where
    at : (b : Bool) → is_ref_name l ≡ b → cond b (behind (codes "refs/rewritten/") l) None ≡ Some name → IsLabel name
    at true named e = ap is_ref_name (sym (key_takes (codes "refs/rewritten/") l name e)) ∙ named
    at false named e = absurd cc

pub labels_recalled : (bytes : List ℕ) (read labels : List (List ℕ)) → labels ≡ read → read ≡ filter_map label_at (lines_of bytes)
    → Recalls (AllByRecursion IsLabel) labels_text bytes labels
labels_recalled bytes read labels same is = recalled IsLabel label_text label_at label_plain label_fits label_again bytes labels (same ∙ is)

-- ---- the chain

word_plain : (kind : ChainKind) → HasNoFeed (chain_word kind)
word_plain chain.First = refl
word_plain chain.Squash = refl
word_plain chain.Fixup = refl
word_plain chain.Keep = refl
word_plain chain.KeepEdit = refl

item_plain : (item : ChainKind × List ℕ) → IsItem item → HasNoFeed (chain_text item)
item_plain item is = both_plain (chain_word item.0) (encode_lower item.1) (word_plain item.0) (id_plain item.1 is)

-- no id begins with a dash
dash_is_none : (t : List ℕ) → id_at (45 ∷ t) ≡ None
unfolding id_from id_digits_from passing_at
dash_is_none t = refl

item_again : (item : ChainKind × List ℕ) → IsItem item → item_at (chain_text item) ≡ Some item
unfolding literal_at
item_again (chain.First, id) is = rw (id_again id is) refl
item_again (chain.Squash, id) is = rw (id_again id is) refl
item_again (chain.Fixup, id) is = rw (id_again id is) refl
item_again (chain.Keep, id) is = rw (dash_is_none (codes "C " ++ encode_lower id), id_again id is) refl
item_again (chain.KeepEdit, id) is = rw (dash_is_none (codes "c " ++ encode_lower id), id_again id is) refl

item_of_fits : (kind : ChainKind) (o : Option (List ℕ)) (item : ChainKind × List ℕ) → ((id : List ℕ) → o ≡ Some id → IsId id)
    → item_of kind o ≡ Some item → IsItem item
item_of_fits kind None item fit e = absurd cc
item_of_fits kind (Some id) item fit e = let item-is : (kind, id) ≡ item = cc in subst IsItem item-is (fit id refl)

behind_fits : (o : Option (List ℕ)) (id : List ℕ) → id_behind o ≡ Some id → IsId id
behind_fits None id e = absurd cc
behind_fits (Some l) id e = id_fits l id e

key_fits : (kind : ChainKind) (key l : List ℕ) (item : ChainKind × List ℕ) → item_behind kind key l ≡ Some item → IsItem item
key_fits kind key l item e = item_of_fits kind (id_behind (behind key l)) item (behind_fits (behind key l)) e

or_fits : (a b : Option (ChainKind × List ℕ)) (item : ChainKind × List ℕ) → (a ≡ Some item → IsItem item) → (b ≡ Some item → IsItem item)
    → or_item a b ≡ Some item → IsItem item
or_fits None b item one two e = two e
or_fits (Some x) b item one two e = one e

item_fits : (l : List ℕ) (item : ChainKind × List ℕ) → item_at l ≡ Some item → IsItem item
item_fits l item e =
    let first = key_fits chain.First (codes "pick ") l item in
    let squash = key_fits chain.Squash (codes "squash ") l item in
    let fixup = key_fits chain.Fixup (codes "fixup ") l item in
    let keep = key_fits chain.Keep (codes "fixup -C ") l item in
    let edit = key_fits chain.KeepEdit (codes "fixup -c ") l item in
    or_fits _ _ item first (or_fits _ _ item squash (or_fits _ _ item fixup (or_fits _ _ item keep edit))) e

none_first : (items : List (ChainKind × List ℕ)) → list_all goes_on items ≡ true
    → AllByRecursion (λ (other : ChainKind × List ℕ). is_first other.0 ≡ false) items
none_first [] all = tt
none_first (item ∷ items) all =
    let k = and_parts (goes_on item) (list_all goes_on items) all in (not-true (is_first item.0) k.0, none_first items k.1)

all_go_on : (items : List (ChainKind × List ℕ)) → AllByRecursion (λ (other : ChainKind × List ℕ). is_first other.0 ≡ false) items
    → list_all goes_on items ≡ true
all_go_on [] none = refl
all_go_on (item ∷ items) none = let first = none.0 in rw first (all_go_on items none.1)

chain_is : (items : List (ChainKind × List ℕ)) → is_chain items ≡ true → IsChain items
chain_is [] e = tt
chain_is (item ∷ items) e = let k = and_parts (is_first item.0) (list_all goes_on items) e in (k.0, none_first items k.1)

chain_tested : (items : List (ChainKind × List ℕ)) → IsChain items → is_chain items ≡ true
chain_tested [] is = refl
chain_tested (item ∷ items) is = let first = is.0 in rw first (all_go_on items is.1)

chain_fits : (items : List (ChainKind × List ℕ)) → AllByRecursion IsItem items → AreItems (chain_of items)
chain_fits items fits = at (is_chain items) refl
  where
    at : (b : Bool) → is_chain items ≡ b → AreItems (cond b items [])
    at true is = (fits, chain_is items is)
    at false is = (tt, tt)

pub chain_recalled : (bytes : List ℕ) (read items : List (ChainKind × List ℕ)) → items ≡ read → read ≡ chain_of (filter_map item_at (lines_of bytes))
    → Recalls AreItems items_text bytes items
chain_recalled bytes read items same is = let e = same ∙ is in record {
  fits = subst AreItems (sym e) (chain_fits _ (all_fit IsItem chain_text item_at item_plain item_fits item_again (lines_of bytes)));
  again = λ ys fits text.
      let back = read_back IsItem chain_text item_at item_plain item_fits item_again bytes ys fits.0 text in
      let tested = chain_tested ys fits.1 in
      e ∙ ap chain_of back ∙ ap (λ (b : Bool). cond b ys []) tested;
}
