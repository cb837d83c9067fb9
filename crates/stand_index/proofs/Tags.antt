-- Blocks by the traces of the cells that they begin with.
use Rattle.std.proofs.Common.{◌≡◌, ◌⊎◌, inl, inr, ℕ, ◌+◌, ◌-◌, ◌*◌, ◌/◌, ◌%◌, ◌<◌, ◌≤◌, List, Result, Ok, Err, OnOk, refl, sym, ap, subst, ◌∙◌, arith}
use Rattle.subvol_catalog.specs.declared.key.Key.{Key}
use Rattle.provenance.specs.declared.trace.Trace.{Trace}
use Rattle.provenance.specs.declared.trace.Trace.TheVariants.{Fresh, Outside}
use Rattle.provenance.specs.Traces.{advanced_by, reach_of}
use Rattle.provenance.specs.TraceLaws.{by_both}
use Rattle.stand_index.specs.declared.blocks.Blocks.{Blocks}
use Rattle.stand_index.specs.declared.source.OutsideFile.{OutsideFile}
use Rattle.stand_index.specs.Blocks.{Begins, IsAmong, Adds}
use Rattle.stand_index.specs.Puts.{Puts, file_of, IsPut, IsPutBy, IsPutIn, PutsBlocks, PutsRun}

-- ---- traces apart

fresh_same : (f g c d : ℕ) → Fresh f c ≡ Fresh g d → (f ≡ g) × (c ≡ d)
fresh_same f g c d e = (cc, cc)

outside_same : (k l : Key) (f g c d : ℕ) → Outside k f c ≡ Outside l g d → (k ≡ l) × (f ≡ g) × (c ≡ d)
outside_same k l f g c d e = (cc, cc, cc)

apart : (f c : ℕ) (k : Key) (g d : ℕ) → Fresh f c ≡ Outside k g d → ⊥
apart f c k g d e = cc

key_same : (k l : Key) (f g : ℕ) → file_of k f ≡ file_of l g → (k ≡ l) × (f ≡ g)
key_same k l f g e =
    let u : k.uuid ≡ l.uuid = ap (λ (o : OutsideFile). o.uuid) e in
    let n : k.ctransid ≡ l.ctransid = ap (λ (o : OutsideFile). o.ctransid) e in
    (ap (λ (v : List ℕ). made v k.ctransid) u ∙ ap (made l.uuid) n, ap (λ (o : OutsideFile). o.ino) e)
  where
    made : List ℕ → ℕ → Key
    made uuid ctransid = record { uuid = uuid; ctransid = ctransid }

-- ---- one of blocks

abbrev pub run : {S : Type 0} → S → (first ino at count : ℕ) → Blocks S
run source first ino at count = record { source = source; first = first; ino = ino; at = at; count = count }

fresh_put : (file first into at count f c ino place : ℕ) → Begins f c ino place (run file first into at count) → IsPutBy (Fresh file first) into at count (Fresh f c) ino place
fresh_put file first into at count f c ino place b = record {
  block = b.block;
  within = b.within;
  cell = ap (λ (n : ℕ). Fresh n c) (sym b.source_is) ∙ ap (Fresh file) b.cell_is;
  file = sym b.ino_is;
  there = b.place_is;
}

fresh_begins : (file first into at count f c ino place : ℕ) → IsPutBy (Fresh file first) into at count (Fresh f c) ino place → Begins f c ino place (run file first into at count)
fresh_begins file first into at count f c ino place p =
    let same = fresh_same f file c (first + 4096 * p.block) p.cell in
    record { block = p.block; within = p.within; source_is = sym same.0; cell_is = same.1; ino_is = sym p.file; place_is = p.there }

outside_put : (key : Key) (from first into at count : ℕ) (k : Key) (f c ino place : ℕ) → Begins (file_of k f) c ino place (run (file_of key from) first into at count)
    → IsPutBy (Outside key from first) into at count (Outside k f c) ino place
outside_put key from first into at count k f c ino place b =
    let same = key_same key k from f b.source_is in
    record {
      block = b.block;
      within = b.within;
      cell = ap (λ (l : Key). Outside l f c) (sym same.0) ∙ ap (λ (n : ℕ). Outside key n c) (sym same.1) ∙ ap (Outside key from) b.cell_is;
      file = sym b.ino_is;
      there = b.place_is;
    }

outside_begins : (key : Key) (from first into at count : ℕ) (k : Key) (f c ino place : ℕ) → IsPutBy (Outside key from first) into at count (Outside k f c) ino place
    → Begins (file_of k f) c ino place (run (file_of key from) first into at count)
outside_begins key from first into at count k f c ino place p =
    let same = outside_same k key f from c (first + 4096 * p.block) p.cell in
    record {
      block = p.block;
      within = p.within;
      source_is = ap (λ (l : Key). file_of l from) (sym same.0) ∙ ap (file_of k) (sym same.1);
      cell_is = same.2;
      ino_is = sym p.file;
      place_is = p.there;
    }

-- ---- what is put in

module _ (outside : List (Blocks OutsideFile)) (old new : List (Blocks ℕ)) where
  pub fresh_adds : (file first into at count : ℕ) → Adds (run file first into at count) old new
      → PutsBlocks (Fresh file first) into at count (record { inputs = old; outside = outside }) (record { inputs = new; outside = outside })
  fresh_adds file first into at count adds (Fresh f c) ino place = (
    (λ has. elim ((adds f c ino place).0 has) [ inl was ↦ inl was | inr b ↦ inr (fresh_put file first into at count f c ino place b) ]),
    (λ has. (adds f c ino place).1 (elim has [ inl was ↦ inl was | inr p ↦ inr (fresh_begins file first into at count f c ino place p) ])),
  )
  fresh_adds file first into at count adds (Outside k f c) ino place = (
    (λ has. inl has),
    (λ has. elim has [ inl was ↦ was | inr p ↦ absurd (apart file (first + 4096 * p.block) k f c (sym p.cell)) ]),
  )

module _ (inputs : List (Blocks ℕ)) (old new : List (Blocks OutsideFile)) where
  pub outside_adds : (key : Key) (from first into at count : ℕ) → Adds (run (file_of key from) first into at count) old new
      → PutsBlocks (Outside key from first) into at count (record { inputs = inputs; outside = old }) (record { inputs = inputs; outside = new })
  outside_adds key from first into at count adds (Fresh f c) ino place = (
    (λ has. inl has),
    (λ has. elim has [ inl was ↦ was | inr p ↦ absurd (apart f c key from (first + 4096 * p.block) p.cell) ]),
  )
  outside_adds key from first into at count adds (Outside k f c) ino place = (
    (λ has. elim ((adds (file_of k f) c ino place).0 has) [ inl was ↦ inl was | inr b ↦ inr (outside_put key from first into at count k f c ino place b) ]),
    (λ has. (adds (file_of k f) c ino place).1 (elim has [ inl was ↦ inl was | inr p ↦ inr (outside_begins key from first into at count k f c ino place p) ])),
  )

-- ---- runs

module _ (first : Trace) (into at len skip count : ℕ) (reaches : len ≤ reach_of first) (is : skip ≡ (4096 - at % 4096) % 4096) where
  from_blocks : skip < len → count ≡ (len - skip - 1) / 4096 + 1 → (tag : Trace) (ino place : ℕ) → IsPutBy (advanced_by first skip) into (at + skip) count tag ino place → IsPutIn first into at len tag ino place
  from_blocks some many tag ino place p = record {
    far = skip + 4096 * p.block;
    within = far_in p.block p.within;
    cell = p.cell ∙ by_both first skip (4096 * p.block) (omega (arith, far_in p.block p.within, reaches));
    file = p.file;
    there = there p.block p.there;
    begins = begins p.block p.there;
  }
    where
      far_in : (block : ℕ) → block < count → skip + 4096 * block < len
      far_in block within = omega (arith, some, many, within)

      there : (block : ℕ) → place ≡ at + skip + 4096 * block → place ≡ at + (skip + 4096 * block)
      there block e = omega (arith, e)

      begins : (block : ℕ) → place ≡ at + skip + 4096 * block → place % 4096 ≡ 0
      begins block e = omega (arith, e, is)

  to_blocks : skip < len → count ≡ (len - skip - 1) / 4096 + 1 → (tag : Trace) (ino place : ℕ) → IsPutIn first into at len tag ino place → IsPutBy (advanced_by first skip) into (at + skip) count tag ino place
  to_blocks some many tag ino place p = record {
    block = (p.far - skip) / 4096;
    within = within p.far p.within;
    cell = p.cell ∙ ap (advanced_by first) (far_is p.far p.there p.begins) ∙ sym (by_both first skip (4096 * ((p.far - skip) / 4096)) (omega (arith, sym (far_is p.far p.there p.begins), p.within, reaches)));
    file = p.file;
    there = p.there ∙ there p.far (far_is p.far p.there p.begins);
  }
    where
      far_is : (far : ℕ) → place ≡ at + far → place % 4096 ≡ 0 → far ≡ skip + 4096 * ((far - skip) / 4096)
      far_is far e begins = omega (arith, e, begins, is)

      within : (far : ℕ) → far < len → (far - skip) / 4096 < count
      within far below = omega (arith, below, some, many)

      there : (far : ℕ) → far ≡ skip + 4096 * ((far - skip) / 4096) → at + far ≡ at + skip + 4096 * ((far - skip) / 4096)
      there far e = omega (arith, e)

  pub run_puts : (old new : Puts) → skip < len → count ≡ (len - skip - 1) / 4096 + 1 → PutsBlocks (advanced_by first skip) into (at + skip) count old new → PutsRun first into at len old new
  run_puts old new some many puts tag ino place = (
    (λ has. elim ((puts tag ino place).0 has) [ inl was ↦ inl was | inr p ↦ inr (from_blocks some many tag ino place p) ]),
    (λ has. (puts tag ino place).1 (elim has [ inl was ↦ inl was | inr p ↦ inr (to_blocks some many tag ino place p) ])),
  )

  -- No block begins in a run that ends before the first one.
  pub run_has_none : (old : Puts) → len ≤ skip → PutsRun first into at len old old
  run_has_none old short tag ino place = (
    (λ has. inl has),
    (λ has. elim has [ inl was ↦ was | inr p ↦ absurd (none p.far p.within p.there p.begins) ]),
  )
    where
      none : (far : ℕ) → far < len → place ≡ at + far → place % 4096 ≡ 0 → ⊥
      none far below e begins = omega (arith, below, e, begins, is, short)

-- ---- where nothing failed

pub if_done : {E : Type 0} (P Q : Type 0) → (P → Q) → (r : Result (Unit {0}) E) → OnOk r P → OnOk r Q
if_done P Q f (Ok done) p = f p
if_done P Q f (Err e) p = tt
