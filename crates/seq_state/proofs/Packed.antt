-- Where the packed refs have labels their file stands, so it is free to be put.
use Rattle.std.proofs.Common.{◌≡◌, true, false, List, [], ◌∷◌, Option, Some, None, Result, Ok, refl, sym, ap, ◌∙◌}
use Rattle.std.specs.Prelude.{is_some, unwrap_or}
use Rattle.std.specs.FinMap as map
use Rattle.std.specs.List.{list_any}
use Rattle.grammar.specs.Readers.{star_at}
use Rattle.ref_store.specs.Values.{or_bad, packed_at}
use Rattle.ref_store.specs.declared.fault.RefFault.{RefFault}
use Rattle.ref_store.specs.declared.fault.RefFault.TheVariants.{BadPacked}
use Rattle.ref_text.specs.ReadLines.{packed_of}
use Rattle.ref_text.specs.ReadPacked.{Ref, packed_from}
use Rattle.ref_text.specs.Refs.{packed_path}
use Rattle.seq_base.specs.Words.{Text}
use Rattle.seq_base.specs.World.{IsWorld, World, is_blocked}
use Rattle.seq_base.proofs.Shape.{free_from}
use Rattle.reading.specs.State.{is_label}

none_packed : packed_of [] ≡ Ok []
unfolding packed_of packed_from star_at
none_packed = refl

stands : (w : World) (refs : List Ref) → packed_at w ≡ Ok refs → list_any is_label refs ≡ true → map.contains_key w packed_path ≡ true
unfolding packed_at
stands w refs is some = at (map.get w packed_path) refl is
  where
    none : (refs : List Ref) → ◌≡◌ {A = Result (List Ref) RefFault} (Ok []) (Ok refs) → list_any is_label refs ≡ true → ⊥
    none [] e some = cc
    none (ref ∷ refs) e some = cc

    at : (o : Option Text) → map.get w packed_path ≡ o → or_bad BadPacked (packed_of (unwrap_or o [])) ≡ Ok refs → is_some (map.get w packed_path) ≡ true
    at (Some text) there is = ap is_some there
    at None there is = absurd (none refs (sym (ap (or_bad BadPacked) none_packed) ∙ is) some)

pub packed_free : (w : World) (refs : List Ref) → IsWorld w → packed_at w ≡ Ok refs → list_any is_label refs ≡ true → is_blocked w packed_path ≡ false
packed_free w refs shaped is some =
    let here = stands w refs is some in
    free_from w packed_path (λ file there. (shaped packed_path file here there, shaped file packed_path there here))
