-- The writes of a switch, as far as they were gathered.
use Rattle.std.proofs.Common.{◌≡◌, ℕ, ◌-◌, ◌<◌, List, [], ◌∷◌, ◌++◌, append_assoc, length, take, drop, get_or, Result, Ok, Err, refl, sym, ap, subst, ◌∙◌, arith}
use Rattle.std.specs.Prelude.{codes, filter, map}
use Rattle.std.proofs.lemmas.List.Elements.{filter-append}
use Rattle.seq_base.specs.World.{World}
use Rattle.seq_outside.specs.declared.write.Write.{Write}
use Rattle.seq_outside.specs.declared.write.Write.TheVariants.{Put}
use Rattle.seq_outside.proofs.Firsts.{first_and_others}
use Rattle.index_file.specs.declared.entry.IndexEntry.{IndexEntry}
use Rattle.index_file.specs.Index.{indexed}
use Rattle.index_file.specs.Spelling.{index_text}
use Rattle.stage_index.specs.Stages.{Entries, map_of, row_of}
use Rattle.stage_index.specs.Switching.{index_write, is_rewritten, removals}
use Rattle.stage_index.proofs.Indexing.{rows_of-indexed}
use Rattle.seq_outside.specs.Halts.{◌>>=◌, Denies}
use Rattle.seq_outside.specs.declared.halt.Halt.{Halt}
use Rattle.seq_outside.specs.declared.halt.Halt.TheVariants.{Stops, Fault, Memory}
use Rattle.seq_outside.specs.declared.lack.Lack.{Lack}
use Rattle.worktree.specs.Blobs.{blob_named}
use Rattle.worktree.specs.Writes.{blob_writes, clear_writes}

-- ---- empty lists

no_entries : (rest : List IndexEntry) → length rest ≡ 0 → rest ≡ []
no_entries [] h = refl
no_entries (e ∷ es) h = absurd (omega arith)

nothing_more : (ws : List Write) → ws ++ [] ≡ ws
nothing_more [] = refl
nothing_more (w ∷ ws) = ap (λ (vs : List Write). w ∷ vs) (nothing_more ws)

-- ---- blobs

abbrev pub chosen : List IndexEntry → List IndexEntry → Entries
chosen from es = filter (is_rewritten from) (map row_of es)

-- behind what was made the rest makes what all make
pub record BlobsSoFar (w : World) (from all rest : List IndexEntry) (old now : List Write) : Type 0 where
  pub made : List Write
  pub now_is : now ≡ old ++ made
  pub means : blob_writes w (chosen from all) ≡ (blob_writes w (chosen from rest) >>= λ more. Ok (made ++ more))

same_writes : (r : Result (List Write) Lack) → r ≡ (r >>= λ more. Ok ([] ++ more))
same_writes (Ok ws) = refl
same_writes (Err e) = refl

-- one after the other
both_writes : (w : World) (xs ys : Entries)
    → blob_writes w (xs ++ ys) ≡ (blob_writes w xs >>= λ first. (blob_writes w ys >>= λ more. Ok (first ++ more)))
unfolding blob_writes
both_writes w [] ys = same_writes (blob_writes w ys)
both_writes w (x ∷ xs) ys = at (blob_named w x.1.id) (both_writes w xs ys)
  where
    at : (r : Result (List ℕ) Lack) → blob_writes w (xs ++ ys) ≡ (blob_writes w xs >>= λ first. (blob_writes w ys >>= λ more. Ok (first ++ more)))
        → (r >>= λ bytes. (blob_writes w (xs ++ ys) >>= λ others. Ok (Put x.0 bytes ∷ others)))
        ≡ ((r >>= λ bytes. (blob_writes w xs >>= λ others. Ok (Put x.0 bytes ∷ others))) >>= λ first. (blob_writes w ys >>= λ more. Ok (first ++ more)))
    at (Err e) later = refl
    at (Ok bytes) later =
        ap (λ (r : Result (List Write) Lack). r >>= λ others. Ok (Put x.0 bytes ∷ others)) later ∙ inner (blob_writes w xs) (blob_writes w ys)
      where
        inner : (p q : Result (List Write) Lack)
            → ((p >>= λ first. (q >>= λ more. Ok (first ++ more))) >>= λ others. Ok (Put x.0 bytes ∷ others)) ≡ ((p >>= λ others. Ok (Put x.0 bytes ∷ others)) >>= λ first. (q >>= λ more. Ok (first ++ more)))
        inner (Err e) q = refl
        inner (Ok ws) (Err e) = refl
        inner (Ok ws) (Ok vs) = refl

chosen_split : (from : List IndexEntry) (x : IndexEntry) (xs : List IndexEntry) → chosen from (x ∷ xs) ≡ chosen from (x ∷ []) ++ chosen from xs
chosen_split from x xs = filter-append (is_rewritten from) (row_of x ∷ []) (map row_of xs)

split_means : (w : World) (from all : List IndexEntry) (x : IndexEntry) (xs : List IndexEntry) (made : List Write)
    → blob_writes w (chosen from all) ≡ (blob_writes w (chosen from (x ∷ xs)) >>= λ more. Ok (made ++ more))
    → blob_writes w (chosen from all) ≡ ((blob_writes w (chosen from (x ∷ [])) >>= λ first. (blob_writes w (chosen from xs) >>= λ more. Ok (first ++ more))) >>= λ more. Ok (made ++ more))
split_means w from all x xs made so_far =
    so_far ∙ ap (λ (r : Result (List Write) Lack). r >>= λ more. Ok (made ++ more)) (ap (blob_writes w) (chosen_split from x xs) ∙ both_writes w (chosen from (x ∷ [])) (chosen from xs))

-- what one entry makes was pushed
abbrev pub Pushed : World → List IndexEntry → IndexEntry → List Write → List Write → Type 0
Pushed w from x now new = (first : List Write) × (blob_writes w (chosen from (x ∷ [])) ≡ Ok first) × (new ≡ now ++ first)

pub blobs_more : (w : World) (from all rest : List IndexEntry) (old now new : List Write) (x : IndexEntry) → BlobsSoFar w from all rest old now
    → 0 < length rest → x ≡ get_or rest 0 x
    → (first : List Write) × (blob_writes w (chosen from (x ∷ [])) ≡ Ok first) × (new ≡ now ++ first) → BlobsSoFar w from all (take (length rest - 1) (drop 1 rest)) old new
blobs_more w from all rest old now new x so_far some is pushed =
    let others = take (length rest - 1) (drop 1 rest) in
    let means = subst (λ (es : List IndexEntry). blob_writes w (chosen from all) ≡ (blob_writes w (chosen from es) >>= λ more. Ok (so_far.made ++ more))) (first_and_others rest x some is) so_far.means in
    record {
      made = so_far.made ++ pushed.0;
      now_is = pushed.2 ∙ ap (λ (ws : List Write). ws ++ pushed.0) so_far.now_is ∙ append_assoc old so_far.made pushed.0;
      means =
          split_means w from all x others so_far.made means
          ∙ ap (λ (r : Result (List Write) Lack). (r >>= λ first. (blob_writes w (chosen from others) >>= λ more. Ok (first ++ more))) >>= λ more. Ok (so_far.made ++ more)) pushed.1
          ∙ regroup so_far.made pushed.0 (blob_writes w (chosen from others));
    }
  where
    regroup : (made first : List Write) (r : Result (List Write) Lack)
        → ((r >>= λ more. Ok (first ++ more)) >>= λ more. Ok (made ++ more)) ≡ (r >>= λ more. Ok ((made ++ first) ++ more))
    regroup made first (Err e) = refl
    regroup made first (Ok more) = ap Ok (sym (append_assoc made first more))

-- where one fails all do
fails_with : (w : World) (from all rest : List IndexEntry) (old now : List Write) (x : IndexEntry) (e : Lack) → BlobsSoFar w from all rest old now
    → 0 < length rest → x ≡ get_or rest 0 x
    → blob_writes w (chosen from (x ∷ [])) ≡ Err e → blob_writes w (chosen from all) ≡ Err e
fails_with w from all rest old now x e so_far some is failed =
    let others = take (length rest - 1) (drop 1 rest) in
    let means = subst (λ (es : List IndexEntry). blob_writes w (chosen from all) ≡ (blob_writes w (chosen from es) >>= λ more. Ok (so_far.made ++ more))) (first_and_others rest x some is) so_far.means in
    split_means w from all x others so_far.made means ∙ ap (λ (r : Result (List Write) Lack). (r >>= λ first. (blob_writes w (chosen from others) >>= λ more. Ok (first ++ more))) >>= λ more. Ok (so_far.made ++ more)) failed

pub blobs_denied : (w : World) (from all rest : List IndexEntry) (old now : List Write) (x : IndexEntry) (halt : Halt Lack)
    → BlobsSoFar w from all rest old now → 0 < length rest → x ≡ get_or rest 0 x
    → Denies halt (blob_writes w (chosen from (x ∷ []))) → Denies halt (blob_writes w (chosen from all))
blobs_denied w from all rest old now x (Stops why) so_far some is denied = fails_with w from all rest old now x why so_far some is denied
blobs_denied w from all rest old now x Fault so_far some is denied = tt
blobs_denied w from all rest old now x Memory so_far some is denied = tt

last : (w : World) (made : List Write) → (blob_writes w [] >>= λ more. Ok (made ++ more)) ≡ Ok made
unfolding blob_writes
last w made = ap Ok (nothing_more made)

pub blobs_end : (w : World) (from all rest : List IndexEntry) (old now : List Write) → BlobsSoFar w from all rest old now → length rest ≡ 0
    → (made : List Write) × (blob_writes w (chosen from all) ≡ Ok made) × (now ≡ old ++ made)
blobs_end w from all rest old now so_far none =
    (so_far.made, so_far.means ∙ ap (λ (es : List IndexEntry). blob_writes w (chosen from es) >>= λ more. Ok (so_far.made ++ more)) (no_entries rest none) ∙ last w so_far.made, so_far.now_is)

-- ---- all of it

fails_so : (w : World) (from : List IndexEntry) (to : Entries) (why : Lack) → blob_writes w (filter (is_rewritten from) to) ≡ Err why
    → clear_writes w from to ≡ Err why
unfolding clear_writes
fails_so w from to why is = rw is refl

pub clear_denied : (w : World) (from : List IndexEntry) (to : Entries) (halt : Halt Lack)
    → Denies halt (blob_writes w (filter (is_rewritten from) to)) → Denies halt (clear_writes w from to)
clear_denied w from to (Stops why) denied = fails_so w from to why denied
clear_denied w from to Fault denied = tt
clear_denied w from to Memory denied = tt

pub all_writes : (w : World) (from : List IndexEntry) (to : Entries) (blobs : List Write) → blob_writes w (filter (is_rewritten from) to) ≡ Ok blobs
    → clear_writes w from to ≡ Ok (removals from to ++ index_write to ∷ blobs)
unfolding clear_writes
all_writes w from to blobs is = rw is refl

-- the entries that are gone through are those of the map
pub rows_in : (to : Entries) (items slice : List IndexEntry) → items ≡ indexed to → items ≡ slice → map row_of slice ≡ to
rows_in to items slice is same = ap (map row_of) (sym same ∙ is) ∙ rows_of-indexed to

pub gathered : (from : List IndexEntry) (to : Entries) (items second third : List IndexEntry) (old removed indexed_too all made : List Write) (x : Write)
    → items ≡ indexed to → map_of items ≡ to → items ≡ second → items ≡ third
    → old ≡ [] → removed ≡ old ++ removals from (map_of second) → x ≡ Put (codes ".git/index") (index_text third) → indexed_too ≡ removed ++ x ∷ [] → all ≡ indexed_too ++ made → removals from to ++ index_write to ∷ made ≡ all
gathered from to items second third old removed indexed_too all made x is map_is two three none gone write pushed last =
    let removed_is : removed ≡ removals from to = gone ∙ ap (λ (ws : List Write). ws ++ removals from (map_of second)) none ∙ ap (λ (es : List IndexEntry). removals from (map_of es)) (sym two) ∙ ap (removals from) map_is in
    let write_is : x ≡ index_write to = write ∙ ap (λ (es : List IndexEntry). Put (codes ".git/index") (index_text es)) (sym three ∙ is) in
    sym (
    last
    ∙ ap (λ (ws : List Write). ws ++ made) (pushed ∙ ap (λ (ws : List Write). ws ++ x ∷ []) removed_is ∙ ap (λ (v : Write). removals from to ++ v ∷ []) write_is)
    ∙ append_assoc (removals from to) (index_write to ∷ []) made)
