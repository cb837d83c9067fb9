-- A chain is read whole, as the commands of its parts in order, each of version 1.
use Rattle.std.specs.Prelude.{◌≡◌, ℕ, zero, suc, ◌+◌, ◌-◌, ◌<◌, ◌≤◌, Bool, true, false, List, [], ◌∷◌, ◌++◌, length, Ok, if◌then◌else◌}
use Rattle.std.specs.List.{flat_map, AllByRecursion}
use Rattle.std.proofs.Common.{refl, sym, ap, subst, ◌∙◌, arith, length-append, append_assoc}
use Rattle.std.proofs.lemmas.Bool.{true≢false}
use Rattle.send_model.specs.Command.{Command, End}
use Rattle.send_model.specs.Spelling.{stream_header, canonical, canonical_all}
use Rattle.send_model.specs.Reading.{Item, Reading, Whole, HeaderDue, CommandDue, due_after, may_end, with_item, item_at, go_on, ended, header_len, front_of, reads_from, reads}
use Rattle.send_model.specs.Order.{commands_of}
use Rattle.send_model.specs.Counts.{is_end}
use Rattle.send_model.specs.Laws.{CanWrite, AreInner}
use Rattle.send_model.specs.Generated.{first_part, later_part, parts_of, chain_of}
use Rattle.send_model.proofs.Canonical.{canonical_spells, spelled_front}
use Rattle.send_model.proofs.Streams.{inner_due, step_inner, end_writable, read_version, header_length, header_read, canonical_long}
use Rattle.chain_trial.proofs.SpelledChains.{IsPart, all_are_parts}

-- What is read whole as these commands, all of version 1.
pub record ReadsFirst (r : Reading) (cs : List Command) : Type 0 where
  pub commands : commands_of r.items ≡ cs
  pub whole : r.end ≡ Whole
  pub first : AllByRecursion (λ item. item.version ≡ 1) r.items

-- What stands behind an END is read.
abbrev then_reads : ℕ → ℕ → ℕ → ℕ → List ℕ → Reading
then_reads n file number offset bytes = if may_end HeaderDue bytes then ended else reads_from n file HeaderDue number offset bytes

abbrev one_more : Item → Reading → Reading
one_more item r = with_item item r

more_read : (item : Item) (r : Reading) (c : Command) (cs : List Command) → item.command ≡ c → item.version ≡ 1 → ReadsFirst r cs → ReadsFirst (one_more item r) (c ∷ cs)
more_read item r c cs is version more = record { commands = λ i. is i ∷ more.commands i; whole = more.whole; first = (version, more.first) }

-- The command in front of other bytes, as an item of version 1.
record IsFront (file number offset : ℕ) (c : Command) (rest : List ℕ) : Type 0 where
  item : Item
  read : front_of file 1 number offset (canonical 1 c ++ rest) ≡ Ok (record { item = item; rest = rest })
  command_is : item.command ≡ c
  version_is : item.version ≡ 1

in_front : (file number offset : ℕ) (c : Command) (rest : List ℕ) → CanWrite 1 c → IsFront file number offset c rest
in_front file number offset c rest w =
    let s = canonical_spells 1 c w.spellable in
    record { item = item_at file 1 number offset s.attributes c; read = spelled_front file 1 number offset (canonical 1 c) rest c s; command_is = refl; version_is = refl }

-- After END what stands behind it is read.
step_last : (n file number offset : ℕ) (bytes rest : List ℕ) (item : Item) → front_of file 1 number offset bytes ≡ Ok (record { item = item; rest = rest }) → item.command ≡ End
    → reads_from (suc n) file (CommandDue 1) number offset bytes ≡ with_item item (then_reads n file (number + 1) (offset + (length bytes - length rest)) rest)
unfolding reads_from
step_last n file number offset bytes rest item front is =
    ap (go_on _ _) front
    ∙ ap (λ (c : Command). with_item item (if may_end (due_after 1 c) rest then ended else reads_from n file (due_after 1 c) (number + 1) (offset + (length bytes - length rest)) rest)) is

-- A header is passed.
step_header : (n file number offset : ℕ) (rest : List ℕ) → reads_from (suc n) file HeaderDue number offset (stream_header 1 ++ rest) ≡ reads_from n file (CommandDue 1) number (offset + header_len) rest
unfolding reads_from stream_header
step_header n file number offset rest = ap (go_on _ _) (header_read 1 rest refl)

-- Bytes are read as commands wherever they stand, where a header may stand or nothing.
abbrev AreRead : ℕ → List ℕ → List Command → Type 0
AreRead file bytes cs = (n number offset : ℕ) → length bytes < n → ReadsFirst (then_reads n file number offset bytes) cs

none_read : (file : ℕ) → AreRead file [] []
none_read file n number offset fuel = record { commands = refl; whole = refl; first = tt }

-- END, and what stands behind it.
last_read : (file : ℕ) (more : List Command) (rest : List ℕ) → AreRead file rest more → (n number offset : ℕ) → length (canonical_all 1 (End ∷ []) ++ rest) < suc n
    → ReadsFirst (reads_from (suc n) file (CommandDue 1) number offset (canonical_all 1 (End ∷ []) ++ rest)) (End ∷ more)
unfolding canonical_all
last_read file more rest others n number offset fuel =
    let front : IsFront file number offset End rest = in_front file number offset End rest (end_writable 1 (read_version 1 refl)) in
    let bytes_are : canonical_all 1 (End ∷ []) ++ rest ≡ canonical 1 End ++ rest = append_assoc (canonical 1 End) [] rest in
    let o : ℕ = offset + (length (canonical 1 End ++ rest) - length rest) in
    let shorter : length rest < n = omega (arith, fuel, ap length bytes_are, length-append (canonical 1 End) rest, canonical_long 1 End) in
    subst (λ (bytes : List ℕ). ReadsFirst (reads_from (suc n) file (CommandDue 1) number offset bytes) (End ∷ more)) (sym bytes_are)
    (subst (λ (r : Reading). ReadsFirst r (End ∷ more)) (sym (step_last n file number offset (canonical 1 End ++ rest) rest front.item front.read front.command_is))
    (more_read front.item (then_reads n file (number + 1) o rest) End more front.command_is front.version_is (others n (number + 1) o shorter)))

-- One more command in front.
next_read : (file : ℕ) (c : Command) (cs more : List Command) (rest : List ℕ) → CanWrite 1 c × (is_end c ≡ false) → (n number offset : ℕ) → length (canonical_all 1 (c ∷ cs) ++ rest) < suc n
    → ((o : ℕ) → length (canonical_all 1 cs ++ rest) < n → ReadsFirst (reads_from n file (CommandDue 1) (number + 1) o (canonical_all 1 cs ++ rest)) more)
    → ReadsFirst (reads_from (suc n) file (CommandDue 1) number offset (canonical_all 1 (c ∷ cs) ++ rest)) (c ∷ more)
unfolding canonical_all
next_read file c cs more rest one n number offset fuel others =
    let behind : List ℕ = canonical_all 1 cs ++ rest in
    let front : IsFront file number offset c behind = in_front file number offset c behind one.0 in
    let bytes_are : canonical_all 1 (c ∷ cs) ++ rest ≡ canonical 1 c ++ behind = append_assoc (canonical 1 c) (canonical_all 1 cs) rest in
    let o : ℕ = offset + (length (canonical 1 c ++ behind) - length behind) in
    let shorter : length behind < n = omega (arith, fuel, ap length bytes_are, length-append (canonical 1 c) behind, canonical_long 1 c) in
    let due : due_after 1 front.item.command ≡ CommandDue 1 = ap (due_after 1) front.command_is ∙ inner_due 1 c one.1 in
    subst (λ (bytes : List ℕ). ReadsFirst (reads_from (suc n) file (CommandDue 1) number offset bytes) (c ∷ more)) (sym bytes_are)
    (subst (λ (r : Reading). ReadsFirst r (c ∷ more)) (sym (step_inner n file 1 number offset (canonical 1 c ++ behind) behind front.item front.read due))
    (more_read front.item (reads_from n file (CommandDue 1) (number + 1) o behind) c more front.command_is front.version_is (others o shorter)))

-- The commands of a part, and what stands behind it.
part_read : (file : ℕ) (inner more : List Command) (rest : List ℕ) → AreInner 1 inner → AreRead file rest more → (n number offset : ℕ) → length (canonical_all 1 (inner ++ End ∷ []) ++ rest) < n
    → ReadsFirst (reads_from n file (CommandDue 1) number offset (canonical_all 1 (inner ++ End ∷ []) ++ rest)) ((inner ++ End ∷ []) ++ more)
part_read file inner more rest all others zero number offset fuel = absurd (omega (arith, fuel))
part_read file [] more rest all others (suc n) number offset fuel = last_read file more rest others n number offset fuel
part_read file (c ∷ inner) more rest all others (suc n) number offset fuel =
    next_read file c (inner ++ End ∷ []) ((inner ++ End ∷ []) ++ more) rest all.0 n number offset fuel (λ o shorter. part_read file inner more rest all.1 others n (number + 1) o shorter)

-- A stream of a part, and what stands behind it.
abbrev stream_of : List Command → List ℕ
stream_of part = stream_header 1 ++ canonical_all 1 part

no_end : (rest : List ℕ) → may_end HeaderDue (stream_header 1 ++ rest) ≡ false
unfolding stream_header
no_end rest = refl

stream_read : (file : ℕ) (part more : List Command) (rest : List ℕ) → IsPart part → AreRead file rest more → AreRead file (stream_of part ++ rest) (part ++ more)
stream_read file part more rest (inner, is, all) others = λ n number offset fuel. one n number offset fuel
  where
    one : (n number offset : ℕ) → length (stream_of part ++ rest) < n → ReadsFirst (then_reads n file number offset (stream_of part ++ rest)) (part ++ more)
    one zero number offset fuel = absurd (omega (arith, fuel))
    one (suc n) number offset fuel =
        let commands : List ℕ = canonical_all 1 (inner ++ End ∷ []) ++ rest in
        let bytes_are : stream_of part ++ rest ≡ stream_header 1 ++ commands =
        append_assoc (stream_header 1) (canonical_all 1 part) rest ∙ ap (λ (cs : List Command). stream_header 1 ++ (canonical_all 1 cs ++ rest)) is in
        let shorter : length commands < n = omega (arith, fuel, ap length bytes_are, header_length 1 commands) in
        let R : Reading → Type 0 = λ r. ReadsFirst r (part ++ more) in
        subst (λ (bytes : List ℕ). R (then_reads (suc n) file number offset bytes)) (sym bytes_are)
        (subst R (sym (ap (λ (b : Bool). if b then ended else reads_from (suc n) file HeaderDue number offset (stream_header 1 ++ commands)) (no_end commands) ∙ step_header n file number offset commands))
        (subst (λ (cs : List Command). ReadsFirst (reads_from n file (CommandDue 1) number (offset + header_len) commands) (cs ++ more)) (sym is)
        (part_read file inner more rest all others n number (offset + header_len) shorter)))

streams_read : (file : ℕ) (parts : List (List Command)) → AllByRecursion IsPart parts → AreRead file (flat_map stream_of parts) (flat_map (λ part. part) parts)
streams_read file [] all = none_read file
streams_read file (part ∷ parts) all = stream_read file part (flat_map (λ p. p) parts) (flat_map stream_of parts) all.0 (streams_read file parts all.1)

-- There is a first part.
first_there : (seed count : ℕ) → (part : List Command) × (others : List (List Command)) × (parts_of seed (suc count) ≡ part ∷ others)
unfolding parts_of
first_there seed zero = (first_part seed, [], refl)
first_there seed (suc count) =
    let before = first_there seed count in
    let last : List (List Command) = later_part seed (suc (suc count)) ∷ [] in
    (before.0, before.1 ++ last, ap (λ (ps : List (List Command)). ps ++ last) before.2)

some_bytes : (seed count : ℕ) → 1 ≤ count → may_end HeaderDue (flat_map stream_of (parts_of seed count)) ≡ false
unfolding stream_header
some_bytes seed zero some = absurd (omega (arith, some))
some_bytes seed (suc count) some = ap (λ (ps : List (List Command)). may_end HeaderDue (flat_map stream_of ps)) (first_there seed count).2

-- A chain as a file.
pub chain_read : (seed count : ℕ) → 1 ≤ count → count ≤ 4_096 → ReadsFirst (reads 1 (chain_of seed count)) (flat_map (λ part. part) (parts_of seed count))
unfolding chain_of reads
chain_read seed count some few = by_end (may_end HeaderDue bytes) refl (streams_read 1 (parts_of seed count) (all_are_parts seed count few) (suc (length bytes)) 1 0 (omega arith))
  where
    bytes : List ℕ
    bytes = flat_map stream_of (parts_of seed count)

    by_end : (b : Bool) → may_end HeaderDue bytes ≡ b → ReadsFirst (if b then ended else reads_from (suc (length bytes)) 1 HeaderDue 1 0 bytes) (flat_map (λ part. part) (parts_of seed count))
        → ReadsFirst (reads_from (suc (length bytes)) 1 HeaderDue 1 0 bytes) (flat_map (λ part. part) (parts_of seed count))
    by_end false e read = read
    by_end true e read = absurd (true≢false (sym e ∙ some_bytes seed count some))
