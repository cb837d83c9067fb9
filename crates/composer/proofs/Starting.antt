-- Before the first file: what the composer keeps is what composing keeps by its definition, and its
-- cells are had; and over no base.
use Rattle.std.specs.Prelude.{◌≡◌, ℕ, false, List, [], Option, None, Some}
use Rattle.std.proofs.Common.{refl, sym, ap, subst, arith}
use Rattle.send_model.specs.Store.{Store, find}
use Rattle.send_model.specs.Receive.{start_of}
use Rattle.send_model.specs.Provenance.{Traced, traced_store}
use Rattle.send_model.specs.Cells.{recelled_store, AllCells}
use Rattle.sx_base.specs.Calls.{IfAllTold}
use Rattle.clone_resolve.proofs.TakenStates.{cells_weaker}
use Rattle.provenance.specs.declared.trace.Trace.{Trace}
use Rattle.provenance.specs.declared.trace.Trace.TheVariants.{Fresh, Outside}
use Rattle.provenance.specs.Traces.{place_of}
use Rattle.file_survey.specs.Findings.{Surveyed}
use Rattle.clone_pieces.specs.Origins.{outside_cells, IsHad, IsInInput, AreAsLong, AreHeld, byte_of_trace}
use Rattle.clone_pieces.specs.Seen.{seen}
use Rattle.composer.specs.OverBase.{Composing, at_start}
use Rattle.composer.specs.Kept.{Kept, kept_at_start, composing_of}
use Rattle.send_model.specs.Outside.{AllSayable}
use Rattle.composer.specs.Files.{plan_with}
use Rattle.clone_pieces.proofs.Told.{all_always, all_map}

-- Each cell of the base's subvolumes is traced to its own place.
abbrev pub IsTraced : Store ℕ → Store (Option Trace) → List (List ℕ) → Type 0
IsTraced base core told = ◌≡◌ {A = Store Traced} (recelled_store (seen (byte_of_trace told base) place_of) core) (traced_store base)

starts_at : (files : List (List ℕ)) (base : Store ℕ) (survey : Surveyed) (core : Store (Option Trace)) → IsTraced base core files → composing_of files base (kept_at_start core) ≡ at_start (plan_with base survey)
starts_at files base survey core traced =
    let at : Store Traced → Composing = λ s. record { state = record { store = s; part = None }; previous = None; current = None; begun = false; sum = 0; pending = [] } in
    ap at traced

pub starts : (told : Option (List (List ℕ × List ℕ))) (names : List (List ℕ)) (base : Store ℕ) (survey : Surveyed) (core : Store (Option Trace)) (now : Kept) → now ≡ kept_at_start core → IfAllTold told names (IsTraced base core)
    → IfAllTold told names (λ files. composing_of files base now ≡ at_start (plan_with base survey))
starts told names base survey core now e traced = all_map told names (IsTraced base core) (λ files. composing_of files base now ≡ at_start (plan_with base survey)) (λ files t.
    subst (λ (k : Kept). composing_of files base k ≡ at_start (plan_with base survey)) (sym e) (starts_at files base survey core t)) traced

-- Cells of which none comes from an input file: the same with any files.
had_more : (n : ℕ) (base : Store ℕ) (x : Option Trace) → IsHad 0 base x → IsHad n base x
had_more n base None h = tt
had_more n base (Some (Fresh file at)) h = absurd (omega (arith, h))
had_more n base (Some (Outside key ino at)) h = h

in_input : (files : List (List ℕ)) (base : Store ℕ) (x : Option Trace) → IsHad 0 base x → IsInInput files x
in_input files base None h = tt
in_input files base (Some (Fresh file at)) h = absurd (omega (arith, h))
in_input files base (Some (Outside key ino at)) h = tt

pub starts_had : (n : ℕ) (base : Store ℕ) (core : Store (Option Trace)) (now : Kept) → now ≡ kept_at_start core → AllCells (IsHad 0 base) (start_of core) → AllCells (IsHad n base) now.state
starts_had n base core now e had = subst (λ (k : Kept). AllCells (IsHad n base) k.state) (sym e) (cells_weaker (IsHad 0 base) (IsHad n base) (start_of core) (had_more n base) had)

pub starts_there : (told : Option (List (List ℕ × List ℕ))) (names : List (List ℕ)) (base : Store ℕ) (core : Store (Option Trace)) (now : Kept) → now ≡ kept_at_start core → AllCells (IsHad 0 base) (start_of core)
    → IfAllTold told names (λ files. AllCells (IsInInput files) now.state)
starts_there told names base core now e had = all_always told names (λ files. AllCells (IsInInput files) now.state) (λ files.
    subst (λ (k : Kept). AllCells (IsInInput files) k.state) (sym e) (cells_weaker (IsHad 0 base) (IsInInput files) (start_of core) (in_input files base) had))

-- ---- no base

pub nothing_traced : (told : Option (List (List ℕ × List ℕ))) (names : List (List ℕ)) (core : Store (Option Trace)) → core ≡ [] → IfAllTold told names (IsTraced [] core)
unfolding traced_store
nothing_traced told names core e = all_always told names (IsTraced [] core) (λ files. subst (λ (s : Store (Option Trace)). IsTraced [] s files) (sym e) refl)

pub nothing_sized : AreAsLong (λ key ino. []) (outside_cells [])
unfolding find
nothing_sized key ino = refl

pub nothing_held : AreHeld (λ key ino. []) []
unfolding find
nothing_held key ino = refl

pub nothing_sayable : AllSayable []
unfolding find
nothing_sayable key s f = cc
