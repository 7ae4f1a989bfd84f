-- A root's id tells the map, where no two trees have one id.
use Rattle.std.proofs.Common.{◌≡◌, ◌⊎◌, ℕ, ◌<◌, ◌≤◌, ◌^◌, Bool, true, false, List, [], ◌∷◌, ◌++◌, length, map, Ok, inl, inr, refl, sym, ap, subst, ◌∙◌, arith}
use Rattle.std.specs.List.{AllByRecursion, Contains}
use Rattle.std.specs.Str.{bytes_eq}
use Rattle.std.proofs.lemmas.List.Elements.{Contains-append_left, Contains-append_right}
use Rattle.std.proofs.lemmas.Slice.Eq.{bytes_eq-Decides}
use Rattle.seq_base.specs.Paths.{IsPath}
use Rattle.seq_base.specs.PathMaps.{IsPathMap, Entries}
use Rattle.seq_base.specs.declared.map.Entry.{Entry}
use Rattle.seq_base.specs.declared.mode.Mode.TheVariants.{Folder}
use Rattle.object_text.specs.declared.object.Object.{Object}
use Rattle.object_text.specs.declared.tree.TreeEntry.{TreeEntry}
use Rattle.object_text.specs.Objects.{object_text}
use Rattle.object_text.specs.ReadObjects.{object_from}
use Rattle.object_text.specs.ReadTrees.{tree_from}
use Rattle.object_text.specs.Store.{content_limit}
use Rattle.object_text.specs.TreeMaps.{Listing, NoMore, OneFile, OneFolder, folder_trees, is_folder, listing_of, root_of, tree_entries, tree_id, tree_object, trees_of}
use Rattle.object_text.specs.Trees.{HaveIds, IsTreeOrder, tree_text}
use Rattle.object_text.proofs.Entries.{tree_reads}
use Rattle.object_text.proofs.ObjectLaws.{object_reads, object_written}
use Rattle.path_trees.specs.Collisions.{HaveOneId}
use Rattle.path_trees.proofs.Folders.{HaveRowIds, are_files}
use Rattle.path_trees.proofs.Listings.{IsWhole, in_front, listing_whole, rows_in, rows_listed}
use Rattle.path_trees.proofs.PathNames.{all_names}
use Rattle.path_trees.proofs.ReadBack.{have_ids, inner_ids, split_all}
use Rattle.path_trees.proofs.TreeOrder.{AllApart, all_back, all_front, apart_back, apart_front, apart_inner, map_apart, tree_ordered}

-- the tree is no larger than an object may be
abbrev pub IsSmall : List TreeEntry → Type 0
IsSmall tree = length (tree_text tree) ≤ content_limit

-- ---- one text is one tree

record IsGood (tree : List TreeEntry) : Type 0 where
  order : IsTreeOrder tree
  ids : HaveIds tree
  small : IsSmall tree

spelled : (tree : List TreeEntry) → IsGood tree → tree_from (tree_text tree) ≡ Ok tree
spelled tree good = tree_reads.again tree (tree_text tree) (record { order = good.order; ids = good.ids; text_is = refl })

read : (tree : List TreeEntry) → IsGood tree → object_from (object_text (tree_object tree)) ≡ Ok (tree_object tree)
read tree good =
    let low = good.small in
    let fits : length (tree_text tree) < 2 ^ 64 = omega arith in
    object_reads.again (tree_object tree) (object_text (tree_object tree)) (object_written (tree_object tree) (object_text (tree_object tree)) fits refl)

one_tree : (s t : List TreeEntry) → IsGood s → IsGood t → object_text (tree_object s) ≡ object_text (tree_object t) → s ≡ t
one_tree s t gs gt same =
    let objects : Ok (tree_object s) ≡ Ok (tree_object t) = sym (read s gs) ∙ (ap object_from same ∙ read t gt) in
    let one : tree_object s ≡ tree_object t = cc in
    let texts : tree_text s ≡ tree_text t = ap (λ (o : Object). o.bytes) one in
    let trees : Ok s ≡ Ok t = sym (spelled s gs) ∙ (ap tree_from texts ∙ spelled t gt) in
    cc

-- trees with one id are one, or have different texts
told_apart : (s t : List TreeEntry) → IsGood s → IsGood t → tree_id s ≡ tree_id t
    → (s ≡ t) ⊎ (object_text (tree_object s) ≡ object_text (tree_object t) → ⊥)
told_apart s t gs gt same = by (bytes_eq (object_text (tree_object s)) (object_text (tree_object t))) refl
  where
    by : (equal : Bool) → bytes_eq (object_text (tree_object s)) (object_text (tree_object t)) ≡ equal
        → (s ≡ t) ⊎ (object_text (tree_object s) ≡ object_text (tree_object t) → ⊥)
    by true is = inl (one_tree s t gs gt ((bytes_eq-Decides (object_text (tree_object s)) (object_text (tree_object t))).0 is))
    by false is = inr (λ e. let on = (bytes_eq-Decides (object_text (tree_object s)) (object_text (tree_object t))).1 e in absurd cc)

-- ---- listings

record IsSound (listing : Listing) : Type 0 where
  whole : IsWhole listing
  apart : AllApart (rows_in listing)
  ids : HaveRowIds (rows_in listing)
  small : AllByRecursion IsSmall (folder_trees listing)

file_others : (name : List ℕ) (entry : Entry) (others : Listing) → IsSound (OneFile name entry others) → IsSound others
unfolding rows_in folder_trees
file_others name entry others sound = record { whole = sound.whole.2; apart = sound.apart.1; ids = sound.ids.1; small = sound.small }

module _ (name : List ℕ) (its others : Listing) (sound : IsSound (OneFolder name its others)) where
  small_trees : AllByRecursion IsSmall (folder_trees its) × AllByRecursion IsSmall (tree_entries its ∷ folder_trees others)
  unfolding folder_trees
  small_trees = split_all IsSmall (folder_trees its) (tree_entries its ∷ folder_trees others) sound.small

  folder_its : IsSound its
  unfolding rows_in
  folder_its = record {
    whole = sound.whole.2;
    apart = apart_inner name (rows_in its) (apart_front (map (in_front name) (rows_in its)) (rows_in others) sound.apart);
    ids = inner_ids name (rows_in its) (all_front (λ e. length e.1.id ≡ 20) (map (in_front name) (rows_in its)) (rows_in others) sound.ids);
    small = small_trees.0;
  }

  folder_others : IsSound others
  unfolding rows_in
  folder_others = record {
    whole = sound.whole.4;
    apart = apart_back (map (in_front name) (rows_in its)) (rows_in others) sound.apart;
    ids = all_back (λ e. length e.1.id ≡ 20) (map (in_front name) (rows_in its)) (rows_in others) sound.ids;
    small = small_trees.1.1;
  }

  folder_tree : IsGood (tree_entries its)
  folder_tree = record { order = tree_ordered its folder_its.whole folder_its.apart; ids = have_ids its folder_its.ids; small = small_trees.1.0 }

-- collisions among fewer trees are collisions among more
wider : (ss ts us vs : List (List TreeEntry)) → ((t : List TreeEntry) → Contains ss t → Contains us t)
    → ((t : List TreeEntry) → Contains ts t → Contains vs t) → HaveOneId ss ts → HaveOneId us vs
wider ss ts us vs left right at =
    record { one = at.one; other = at.other; among = left at.one at.among; among_others = right at.other at.among_others; differ = at.differ; same = at.same }

head_of : (t : List TreeEntry) (ts : List (List TreeEntry)) → Contains (t ∷ ts) t
head_of t ts = (0, omega arith, refl)

in_its : (name : List ℕ) (its others : Listing) (t : List TreeEntry) → Contains (folder_trees its) t
    → Contains (folder_trees (OneFolder name its others)) t
unfolding folder_trees
in_its name its others t at = Contains-append_left (folder_trees its) (tree_entries its ∷ folder_trees others) t at

in_own : (name : List ℕ) (its others : Listing) → Contains (folder_trees (OneFolder name its others)) (tree_entries its)
unfolding folder_trees
in_own name its others =
    Contains-append_right (folder_trees its) (tree_entries its ∷ folder_trees others) (tree_entries its) (head_of (tree_entries its) (folder_trees others))

in_others : (name : List ℕ) (its others : Listing) (t : List TreeEntry) → Contains (folder_trees others) t
    → Contains (folder_trees (OneFolder name its others)) t
unfolding folder_trees
in_others name its others t at =
    Contains-append_right (folder_trees its) (tree_entries its ∷ folder_trees others) t (Contains-append_right (tree_entries its ∷ []) (folder_trees others) t at)

in_file_others : (name : List ℕ) (entry : Entry) (others : Listing) (t : List TreeEntry) → Contains (folder_trees others) t
    → Contains (folder_trees (OneFile name entry others)) t
unfolding folder_trees
in_file_others name entry others t at = at

abbrev Same : Listing → Listing → Type 0
Same l m = (rows_in l ≡ rows_in m) ⊎ HaveOneId (folder_trees l) (folder_trees m)

abbrev first_of : TreeEntry → List TreeEntry → TreeEntry
first_of other [] = other
first_of other (t ∷ ts) = t

abbrev entry_at : List ℕ → Entry → TreeEntry
entry_at name entry = record { mode = entry.mode; name = name; id = entry.id }

same_file : (n n' : List ℕ) (e e' : Entry) (o o' : Listing) (es es' : List TreeEntry) → entry_at n e ∷ es ≡ entry_at n' e' ∷ es'
    → (es ≡ es' → Same o o') → Same (OneFile n e o) (OneFile n' e' o')
unfolding rows_in
same_file n n' e e' o o' es es' same others = elim (others cc) [
  | inl rows ↦
      let heads : entry_at n e ≡ entry_at n' e' = ap (first_of (entry_at n e)) same in
      let entry : e ≡ e' = ap (λ (t : TreeEntry). record { mode = t.mode; id = t.id }) heads in
      let name : n ≡ n' = ap (λ (t : TreeEntry). t.name) heads in
      inl (ap (λ (k : List ℕ). (k, e) ∷ rows_in o) name ∙ (ap (λ (x : Entry). (n', x) ∷ rows_in o) entry ∙ ap (λ (rs : Entries). (n', e') ∷ rs) rows))
  | inr at ↦ inr (wider (folder_trees o) (folder_trees o') (folder_trees (OneFile n e o)) (folder_trees (OneFile n' e' o')) (in_file_others n e o) (in_file_others n' e' o') at)
]

abbrev folder_at : List ℕ → Listing → TreeEntry
folder_at name its = record { mode = Folder; name = name; id = tree_id (tree_entries its) }

same_folder : (n n' : List ℕ) (its its' o o' : Listing) (es es' : List TreeEntry) → IsGood (tree_entries its) → IsGood (tree_entries its')
    → folder_at n its ∷ es ≡ folder_at n' its' ∷ es' → (tree_entries its ≡ tree_entries its' → Same its its') → (es ≡ es' → Same o o')
    → Same (OneFolder n its o) (OneFolder n' its' o')
unfolding rows_in
same_folder n n' its its' o o' es es' good good' same inner others =
    let heads : folder_at n its ≡ folder_at n' its' = ap (first_of (folder_at n its)) same in
    let name : n ≡ n' = ap (λ (t : TreeEntry). t.name) heads in
    let id : tree_id (tree_entries its) ≡ tree_id (tree_entries its') = ap (λ (t : TreeEntry). t.id) heads in
    let tails : es ≡ es' = cc in
    elim (told_apart (tree_entries its) (tree_entries its') good good' id) [
      | inl one ↦ both name (inner one) (others tails)
      | inr differ ↦ inr (record { one = tree_entries its; other = tree_entries its'; among = in_own n its o; among_others = in_own n' its' o'; differ = differ; same = id })
    ]
  where
    both : n ≡ n' → Same its its' → Same o o' → Same (OneFolder n its o) (OneFolder n' its' o')
    both name (inl rows) (inl later) =
        inl (ap (λ (k : List ℕ). map (in_front k) (rows_in its) ++ rows_in o) name ∙ (ap (λ (rs : Entries). map (in_front n') rs ++ rows_in o) rows ∙ ap (λ (rs : Entries). map (in_front n') (rows_in its') ++ rs) later))
    both name (inl rows) (inr at) =
        inr (wider (folder_trees o) (folder_trees o') (folder_trees (OneFolder n its o)) (folder_trees (OneFolder n' its' o')) (in_others n its o) (in_others n' its' o') at)
    both name (inr at) later =
        inr (wider (folder_trees its) (folder_trees its') (folder_trees (OneFolder n its o)) (folder_trees (OneFolder n' its' o')) (in_its n its o) (in_its n' its' o') at)

no_folder : (name id : List ℕ) (entry : Entry) (t : TreeEntry) (es es' : List TreeEntry) → is_folder entry.mode ≡ false → is_folder t.mode ≡ true
    → entry_at name entry ∷ es ≡ t ∷ es' → ⊥
no_folder name id entry t es es' file folder same =
    let mode = ap (λ (x : TreeEntry). is_folder x.mode) (ap (first_of t) same) in
    absurd cc

same_listing : (l m : Listing) → IsSound l → IsSound m → tree_entries l ≡ tree_entries m → Same l m
unfolding tree_entries rows_in
same_listing NoMore NoMore sl sm same = inl refl
same_listing NoMore (OneFile name entry others) sl sm same = absurd cc
same_listing NoMore (OneFolder name its others) sl sm same = absurd cc
same_listing (OneFile name entry others) NoMore sl sm same = absurd cc
same_listing (OneFolder name its others) NoMore sl sm same = absurd cc
same_listing (OneFile n e o) (OneFile n' e' o') sl sm same =
    same_file n n' e e' o o' (tree_entries o) (tree_entries o') same (λ more. same_listing o o' (file_others n e o sl) (file_others n' e' o' sm) more)
same_listing (OneFile n e o) (OneFolder n' its' o') sl sm same =
    absurd (no_folder n n' e (folder_at n' its') (tree_entries o) (tree_entries o') sl.whole.1 refl same)
same_listing (OneFolder n its o) (OneFile n' e' o') sl sm same =
    absurd (no_folder n' n e' (folder_at n its) (tree_entries o') (tree_entries o) sm.whole.1 refl (sym same))
same_listing (OneFolder n its o) (OneFolder n' its' o') sl sm same =
    same_folder n n' its its' o o' (tree_entries o) (tree_entries o') (folder_tree n its o sl) (folder_tree n' its' o' sm) same
    (λ more. same_listing its its' (folder_its n its o sl) (folder_its n' its' o' sm) more) (λ more. same_listing o o' (folder_others n its o sl) (folder_others n' its' o' sm) more)

-- ---- maps

pub one_root : (rows others : Entries) → IsPathMap rows → IsPathMap others → AllByRecursion (λ e. IsPath e.0) rows
    → AllByRecursion (λ e. IsPath e.0) others → HaveRowIds rows → HaveRowIds others
    → AllByRecursion IsSmall (trees_of rows) → AllByRecursion IsSmall (trees_of others) → root_of rows ≡ root_of others → (rows ≡ others) ⊎ HaveOneId (trees_of rows) (trees_of others)
unfolding root_of trees_of
one_root rows others map_is others_map paths others_paths ids others_ids small others_small same =
    let l = listing_of rows in
    let m = listing_of others in
    let sl = sound rows map_is paths ids (split_all IsSmall (folder_trees l) (tree_entries l ∷ []) small).0 in
    let sm = sound others others_map others_paths others_ids (split_all IsSmall (folder_trees m) (tree_entries m ∷ []) others_small).0 in
    let gl : IsGood (tree_entries l) = record { order = tree_ordered l sl.whole sl.apart; ids = have_ids l sl.ids; small = (split_all IsSmall (folder_trees l) (tree_entries l ∷ []) small).1.0 } in
    let gm : IsGood (tree_entries m) = record { order = tree_ordered m sm.whole sm.apart; ids = have_ids m sm.ids; small = (split_all IsSmall (folder_trees m) (tree_entries m ∷ []) others_small).1.0 } in
    elim (told_apart (tree_entries l) (tree_entries m) gl gm same) [
      | inl one ↦ elim (same_listing l m sl sm one) [
        | inl listed ↦ inl (sym (rows_listed rows) ∙ (listed ∙ rows_listed others))
        | inr at ↦ inr (wider (folder_trees l) (folder_trees m) (folder_trees l ++ tree_entries l ∷ []) (folder_trees m ++ tree_entries m ∷ [])
            (λ t in_l. Contains-append_left (folder_trees l) (tree_entries l ∷ []) t in_l) (λ t in_m. Contains-append_left (folder_trees m) (tree_entries m ∷ []) t in_m) at)
      ]
      | inr differ ↦ inr (record {
        one = tree_entries l;
        other = tree_entries m;
        among = Contains-append_right (folder_trees l) (tree_entries l ∷ []) (tree_entries l) (head_of (tree_entries l) []);
        among_others = Contains-append_right (folder_trees m) (tree_entries m ∷ []) (tree_entries m) (head_of (tree_entries m) []);
        differ = differ;
        same = same;
      })
    ]
  where
    sound : (rows : Entries) → IsPathMap rows → AllByRecursion (λ e. IsPath e.0) rows → HaveRowIds rows
        → AllByRecursion IsSmall (folder_trees (listing_of rows)) → IsSound (listing_of rows)
    sound rows is paths ids small =
        let listed = sym (rows_listed rows) in
        record { whole = listing_whole rows (all_names rows paths) (are_files rows is.files); apart = subst AllApart listed (map_apart rows is); ids = subst HaveRowIds listed ids; small = small }
