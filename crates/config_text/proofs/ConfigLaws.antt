-- The reader of a configuration reads its texts.
use Rattle.std.proofs.Common.{◌≡◌, ℕ, suc, ◌<◌, List, [], ◌∷◌, ◌++◌, get_or, Some, Result, Ok, Err, sym, ap, ◌∙◌}
use Rattle.grammar.specs.Grammar.{AllBytes}
use Rattle.grammar.specs.Readers.{NoneGoesOn, Stops, ReadsAll}
use Rattle.config_text.specs.declared.config.Setting.{Setting}
use Rattle.config_text.specs.Configs.{IsConfig, without_returns}
use Rattle.config_text.specs.Reading.{start}
use Rattle.config_text.specs.Returns.{Front, fed, read_from}
use Rattle.config_text.proofs.Runs.{ran, IsDead, failing, goes, dead_on, ran_live, goes_on}
use Rattle.config_text.proofs.Dropped.{core, found, as_core}
use Rattle.config_text.proofs.ReachedLines.{lines_found}
use Rattle.config_text.proofs.UnderstoodLines.{lines_of}

is_found : (r : Result (List Setting) ℕ) (x : List Setting) → found r ≡ Some x → r ≡ Ok x
is_found (Ok y) x e = cc
is_found (Err n) x e = absurd cc

config_takes : (bytes : List ℕ) (x : List Setting) → read_from (fed start) bytes ≡ Ok x → IsConfig x bytes
config_takes bytes x e =
    let k = lines_of x [] [] [] [] [] [] (without_returns bytes ++ 10 ∷ []) (sym (as_core bytes start) ∙ ap found e) in
    record { lines = k.0; are = k.1; text_is = k.2; settings_are = k.3 }

config_again : (x : List Setting) (bytes : List ℕ) → IsConfig x bytes → read_from (fed start) bytes ≡ Ok x
config_again x bytes g =
    let k = lines_found g.lines [] [] [] [] [] [] g.are in
    is_found (read_from (fed start) bytes) x
    (as_core bytes start ∙ ap (λ (t : List ℕ). core (Some start) t) g.text_is ∙ k ∙ ap (λ (y : List Setting). Some y) (sym g.settings_are))

config_stops : (bytes : List ℕ) (left : ℕ) → read_from (fed start) bytes ≡ Err left → Stops IsConfig bytes left
config_stops bytes left e =
    let k = failing (fed start) bytes left e in
    let live = goes_on k.now (ran_live (fed start) k.now k.front (λ h. absurd cc) k.went) in
    record {
      front = k.front;
      back = k.back;
      parts = k.parts;
      left_is = k.left_is;
      on = (live.1, live.0, live.2, config_takes (k.front ++ live.0) live.1 (goes (fed start) k.now k.front live.0 k.went ∙ live.3));
      off = off k.back k.front k.now k.went k.dead;
    }
  where
    off : (back front : List ℕ) (f : Front) → ran (Some (fed start)) front ≡ Some f → IsDead f back → NoneGoesOn IsConfig front back
    off [] front f went dead = tt
    off (b ∷ back) front f went dead =
        λ x more g. dead_on f b more x dead (sym (goes (fed start) f front (b ∷ more) went) ∙ config_again x (front ++ b ∷ more) g)

pub config_reads : ReadsAll IsConfig (read_from (fed start))
config_reads = record { takes = config_takes; again = config_again; stops = config_stops }

-- the bytes of a slice
pub bytes_fit : (bs : List ℕ) → ((i : ℕ) → get_or bs i 0 < 256) → AllBytes bs
bytes_fit [] fits = tt
bytes_fit (b ∷ bs) fits = (fits 0, bytes_fit bs (λ i. fits (suc i)))
