-- The messages of a chain are read one after another.
use Rattle.std.proofs.Common.{◌≡◌, ◌-◌, ◌<◌, List, [], ◌∷◌, ◌++◌, length, take, drop, get_or, append_assoc, map, Result, Ok, Err, refl, sym, ap, arith, ◌∙◌}
use Rattle.std.proofs.lemmas.List.{append-nil}
use Rattle.message_text.specs.declared.chain.ChainItem.{ChainItem}
use Rattle.message_text.specs.declared.chain.ChainKind.{ChainKind}
use Rattle.object_text.specs.declared.commit.Commit.{Commit}
use Rattle.objects.specs.Named.{commit_named}
use Rattle.seq_base.specs.Words.{Id}
use Rattle.seq_base.specs.World.{World}
use Rattle.seq_outside.proofs.Firsts.{first_and_others}
use Rattle.seq_outside.specs.Halts.{◌>>=◌}
use Rattle.seq_outside.specs.declared.lack.Lack.{Lack}
use Rattle.reading.specs.State.{chain_items}
use Rattle.seq_state.specs.Found.{item_named}

-- those that are read, and the others
abbrev pub behind : List ChainItem → Result (List ChainItem) Lack → Result (List ChainItem) Lack
behind items (Ok others) = Ok (items ++ others)
behind items (Err lack) = Err lack

both : (a b : List ChainItem) (r : Result (List ChainItem) Lack) → behind a (behind b r) ≡ behind (a ++ b) r
both a b (Ok others) = ap (λ (items : List ChainItem). Ok items) (sym (append_assoc a b others))
both a b (Err lack) = refl

one_more : (w : World) (named : ChainKind × Id) (rest : List (ChainKind × Id)) (item : ChainItem) → item_named w named ≡ Ok item
    → chain_items w (named ∷ rest) ≡ behind (item ∷ []) (chain_items w rest)
unfolding chain_items item_named
one_more w named rest item is = at (commit_named w named.1) is (chain_items w rest)
  where
    at : (c : Result Commit Lack) → (c >>= λ commit. Ok (record { kind = named.0; message = commit.message })) ≡ Ok item
        → (r : Result (List ChainItem) Lack)
        → (c >>= λ commit. r >>= λ others. Ok (record { kind = named.0; message = commit.message } ∷ others)) ≡ behind (item ∷ []) r
    at (Ok commit) made (Ok others) = cc
    at (Ok commit) made (Err lack) = refl
    at (Err lack) made r = absurd cc

one_lacks : (w : World) (named : ChainKind × Id) (rest : List (ChainKind × Id)) (lack : Lack) → item_named w named ≡ Err lack
    → chain_items w (named ∷ rest) ≡ Err lack
unfolding chain_items item_named
one_lacks w named rest lack is = at (commit_named w named.1) is
  where
    made : Commit → Result ChainItem Lack
    made commit = Ok (record { kind = named.0; message = commit.message })

    at : (c : Result Commit Lack) → (c >>= made) ≡ Err lack
        → (c >>= λ commit. chain_items w rest >>= λ others. Ok (record { kind = named.0; message = commit.message } ∷ others)) ≡ Err lack
    at (Ok commit) e = absurd cc
    at (Err why) e = cc

none_more : (w : World) → chain_items w [] ≡ Ok []
unfolding chain_items
none_more w = refl

-- what is left of a chain, of which these were read
abbrev pub SameItems : World → List (ChainKind × Id) → List ChainItem → List (ChainKind × Id) → Type 0
SameItems w all items rest = behind items (chain_items w rest) ≡ chain_items w all

pub items_more : (w : World) (all rest : List (ChainKind × Id)) (items : List ChainItem) (named : ChainKind × Id) (item : ChainItem)
    → SameItems w all items rest → 0 < length rest → named ≡ get_or rest 0 named → item_named w named ≡ Ok item
    → SameItems w all (items ++ item ∷ []) (take (length rest - 1) (drop 1 rest))
items_more w all rest items named item same some first is =
    let others = take (length rest - 1) (drop 1 rest) in
    sym (both items (item ∷ []) (chain_items w others))
    ∙ ap (behind items) (sym (one_more w named others item is) ∙ ap (chain_items w) (sym (first_and_others rest named some first))) ∙ same

pub items_lack : (w : World) (all rest : List (ChainKind × Id)) (items : List ChainItem) (named : ChainKind × Id) (lack : Lack)
    → SameItems w all items rest → 0 < length rest → named ≡ get_or rest 0 named → item_named w named ≡ Err lack → chain_items w all ≡ Err lack
items_lack w all rest items named lack same some first is =
    sym same
    ∙ ap (λ (cs : List (ChainKind × Id)). behind items (chain_items w cs)) (first_and_others rest named some first)
    ∙ ap (behind items) (one_lacks w named (take (length rest - 1) (drop 1 rest)) lack is)

no_commits : (rest : List (ChainKind × Id)) → length rest ≡ 0 → rest ≡ []
no_commits [] none = refl
no_commits (named ∷ rest) none = let no : ⊥ = omega (arith, none) in absurd no

pub all_items : (w : World) (all rest : List (ChainKind × Id)) (items : List ChainItem) → SameItems w all items rest → length rest ≡ 0
    → chain_items w all ≡ Ok items
all_items w all rest items same none =
    sym same ∙ ap (λ (cs : List (ChainKind × Id)). behind items (chain_items w cs)) (no_commits rest none) ∙ ap (behind items) (none_more w)
    ∙ ap (λ (xs : List ChainItem). Ok xs) (append-nil items)

-- the kinds of those that were read, and of those that are left
abbrev pub SameKinds : List (ChainKind × Id) → List ChainItem → List (ChainKind × Id) → Type 0
SameKinds all items rest =
    map (λ (item : ChainItem). item.kind) items ++ map (λ (c : ChainKind × Id). c.0) rest ≡ map (λ (c : ChainKind × Id). c.0) all

pub kinds_more : (all rest : List (ChainKind × Id)) (items : List ChainItem) (named : ChainKind × Id) (item : ChainItem)
    → SameKinds all items rest → 0 < length rest → named ≡ get_or rest 0 named → item.kind ≡ named.0
    → SameKinds all (items ++ item ∷ []) (take (length rest - 1) (drop 1 rest))
kinds_more all rest items named item same some first is =
    let others = take (length rest - 1) (drop 1 rest) in
    at items ∙ ap (λ (kind : ChainKind). map (λ (i : ChainItem). i.kind) items ++ kind ∷ map (λ (c : ChainKind × Id). c.0) others) is
    ∙ ap (λ (cs : List (ChainKind × Id)). map (λ (i : ChainItem). i.kind) items ++ map (λ (c : ChainKind × Id). c.0) cs) (sym (first_and_others rest named some first)) ∙ same
  where
    at : (items : List ChainItem)
        → map (λ (i : ChainItem). i.kind) (items ++ item ∷ []) ++ map (λ (c : ChainKind × Id). c.0) (take (length rest - 1) (drop 1 rest))
        ≡ map (λ (i : ChainItem). i.kind) items ++ item.kind ∷ map (λ (c : ChainKind × Id). c.0) (take (length rest - 1) (drop 1 rest))
    at [] = refl
    at (i ∷ items) = ap (λ (kinds : List ChainKind). i.kind ∷ kinds) (at items)
