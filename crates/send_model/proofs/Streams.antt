-- One stream that was spelled is read whole, with its commands; and no part of it that lacks its
-- end is read as whole.
use Rattle.std.specs.Prelude.{◌≡◌, ℕ, zero, suc, ◌+◌, ◌-◌, ◌<◌, ◌≤◌, ◌==◌, ◌||◌, Bool, true, false, List, [], ◌∷◌, ◌++◌, length, take, drop, Ok, nat_le, if◌then◌else◌}
use Rattle.std.specs.List.{AllByRecursion}
use Rattle.std.proofs.Common.{refl, sym, ap, subst, ◌∙◌, arith, length-append, le-leb, zero-le, eqb-true, inl, inr, ⊎_elim}
use Rattle.std.proofs.lemmas.Bool.{true≢false}
use Rattle.std.proofs.lemmas.Nat.{from_le_bytes-to_le_bytes_4}
use Rattle.std.specs.Str.{bytes_eq}
use Rattle.send_model.specs.Command.{Command, End, row, kind_of_number}
use Rattle.send_model.specs.Spelling.{magic, stream_header, attributes_of, body_of, canonical, canonical_all, frame_of}
use Rattle.send_model.specs.Reading.{Item, Reading, Whole, Due, HeaderDue, CommandDue, due_after, may_end, with_item, go_on, ended, is_version, front_of, data_place, header_len, stream_version, reads_from, reads, number32}
use Rattle.send_model.specs.Order.{commands_of}
use Rattle.send_model.specs.Counts.{is_end}
use Rattle.send_model.specs.Laws.{CanWrite}
use Rattle.send_model.proofs.Versions.{IsVersion}
use Rattle.send_model.proofs.Canonical.{canonical_spells, spelled_front}

-- A command inside a stream.
abbrev pub IsInner : ℕ → Command → Type 0
IsInner version c = CanWrite version c × (is_end c ≡ false)

pub inner_due : (version : ℕ) (c : Command) → is_end c ≡ false → due_after version c ≡ CommandDue version
inner_due version End h = absurd (true≢false h)
inner_due version c h = refl

-- Reading a command in front of other bytes.
pub front_item : (file version number offset : ℕ) (c : Command) → CanWrite version c → (rest : List ℕ) → (item : Item) × (item.command ≡ c) × (front_of file version number offset (canonical version c ++ rest) ≡ Ok (record { item = item; rest = rest }))
front_item file version number offset c w rest =
    let s = canonical_spells version c w.spellable in
    (record { file = file; number = number; offset = offset; version = version; data_at = data_place version offset s.attributes; command = c }, refl, spelled_front file version number offset (canonical version c) rest c s)

-- What is read of the commands of one stream.
pub record ReadsAs (r : Reading) (cs : List Command) : Type 0 where
  pub commands : commands_of r.items ≡ cs
  pub whole : r.end ≡ Whole

-- One step of reading, by what stands in front.
pub step_inner : (n file version number offset : ℕ) (bytes rest : List ℕ) (item : Item) → front_of file version number offset bytes ≡ Ok (record { item = item; rest = rest }) → due_after version item.command ≡ CommandDue version
    → reads_from (suc n) file (CommandDue version) number offset bytes ≡ with_item item (reads_from n file (CommandDue version) (number + 1) (offset + (length bytes - length rest)) rest)
unfolding reads_from
step_inner n file version number offset bytes rest item front due =
    ap (go_on _ _) front ∙ ap (λ (d : Due). with_item item (if may_end d rest then ended else reads_from n file d (number + 1) (offset + (length bytes - length rest)) rest)) due

step_end : (n file version number offset : ℕ) (bytes : List ℕ) (item : Item) → front_of file version number offset bytes ≡ Ok (record { item = item; rest = [] }) → item.command ≡ End
    → reads_from (suc n) file (CommandDue version) number offset bytes ≡ with_item item ended
unfolding reads_from
step_end n file version number offset bytes item front is =
    ap (go_on _ _) front ∙ ap (λ (c : Command). with_item item (if may_end (due_after version c) [] then ended else reads_from n file (due_after version c) (number + 1) (offset + (length bytes - 0)) [])) is

-- Each version that is read is one of the two, and has END.
pub read_version : (version : ℕ) → is_version version ≡ true → IsVersion version
read_version version e = one (version == 1) (version == 2) refl refl e
  where
    one : (a b : Bool) → (version == 1) ≡ a → (version == 2) ≡ b → a || b ≡ true → IsVersion version
    one true b p q f = inl (eqb-true version 1 p)
    one false true p q f = inr (eqb-true version 2 q)
    one false false p q f = absurd (true≢false (sym f))

pub end_writable : (version : ℕ) → IsVersion version → CanWrite version End
unfolding kind_of_number row attributes_of body_of
end_writable version is = ⊎_elim (λ e. subst (λ (v : ℕ). CanWrite v End) (sym e) one) (λ e. subst (λ (v : ℕ). CanWrite v End) (sym e) two) is
  where
    one : CanWrite 1 End
    one = record { spellable = record { known = refl; values = tt; short = zero-le } }

    two : CanWrite 2 End
    two = record { spellable = record { known = refl; values = tt; short = zero-le } }

reads_commands : (cs : List Command) (n file version number offset : ℕ) → IsVersion version → AllByRecursion (IsInner version) cs → length cs < n
    → ReadsAs (reads_from n file (CommandDue version) number offset (canonical_all version (cs ++ End ∷ []))) (cs ++ End ∷ [])
unfolding canonical_all
reads_commands cs zero file version number offset is inner fuel = absurd (omega (arith, fuel))
reads_commands [] (suc n) file version number offset is inner fuel =
    let front = front_item file version number offset End (end_writable version is) [] in
    let R : Reading → Type 0 = λ r. ReadsAs r (End ∷ []) in
    subst R (sym (step_end n file version number offset _ front.0 front.2 front.1)) (record { commands = ap (λ (c : Command). c ∷ []) front.1; whole = refl })
reads_commands (c ∷ cs) (suc n) file version number offset is inner fuel =
    let rest : List ℕ = canonical_all version (cs ++ End ∷ []) in
    let front = front_item file version number offset c inner.0.0 rest in
    let due : due_after version front.0.command ≡ CommandDue version = ap (due_after version) front.1 ∙ inner_due version c inner.0.1 in
    let o : ℕ = offset + (length (canonical version c ++ rest) - length rest) in
    let more = reads_commands cs n file version (number + 1) o is inner.1 (omega (arith, fuel)) in
    let R : Reading → Type 0 = λ r. ReadsAs r (c ∷ (cs ++ End ∷ [])) in
    let both : commands_of (front.0 ∷ (reads_from n file (CommandDue version) (number + 1) o rest).items) ≡ c ∷ (cs ++ End ∷ []) = λ i. front.1 i ∷ more.commands i in
    subst R (sym (step_inner n file version number offset _ rest front.0 front.2 due)) (record { commands = both; whole = more.whole })

-- ---- a whole stream

pub header_length : (version : ℕ) (rest : List ℕ) → length (stream_header version ++ rest) ≡ 17 + length rest
unfolding stream_header
header_length version rest = omega arith

magic_there : (version : ℕ) (rest : List ℕ) → bytes_eq (take 13 (stream_header version ++ rest)) magic ≡ true
unfolding stream_header
magic_there version rest = refl

says_version : (version : ℕ) (rest : List ℕ) → IsVersion version → number32 (drop 13 (stream_header version ++ rest)) ≡ version
unfolding stream_header number32
says_version version rest is = from_le_bytes-to_le_bytes_4 version (⊎_elim (λ e. omega (arith, e)) (λ e. omega (arith, e)) is)

pub header_read : (version : ℕ) (rest : List ℕ) → is_version version ≡ true → stream_version (stream_header version ++ rest) ≡ Ok version
unfolding stream_version
header_read version rest is =
    let long : nat_le header_len (length (stream_header version ++ rest)) ≡ true = le-leb _ _ (let l = header_length version rest in omega (arith, l)) in
    rw (long, magic_there version rest, says_version version rest (read_version version is), is) refl

pub canonical_long : (version : ℕ) (c : Command) → 10 ≤ length (canonical version c)
unfolding canonical frame_of
canonical_long version c = omega arith

commands_long : (version : ℕ) (cs : List Command) → length cs ≤ length (canonical_all version cs)
unfolding canonical_all
commands_long version [] = zero-le
commands_long version (c ∷ cs) = omega (arith, length-append (canonical version c) (canonical_all version cs), canonical_long version c, commands_long version cs)

pub after_header : (version : ℕ) (rest : List ℕ) → drop header_len (stream_header version ++ rest) ≡ rest
unfolding stream_header
after_header version rest = refl

pub header_step : (n file version : ℕ) (rest : List ℕ) → is_version version ≡ true → reads_from (suc n) file HeaderDue 1 0 (stream_header version ++ rest) ≡ reads_from n file (CommandDue version) 1 header_len rest
unfolding reads_from stream_header
header_step n file version rest is = ap (go_on _ _) (header_read version rest is)

-- A stream that was spelled is read whole, with its commands.
pub stream_read : (file version : ℕ) (cs : List Command) → is_version version ≡ true → AllByRecursion (IsInner version) cs → ReadsAs (reads file (stream_header version ++ canonical_all version (cs ++ End ∷ []))) (cs ++ End ∷ [])
unfolding reads
stream_read file version cs is inner =
    let rest : List ℕ = canonical_all version (cs ++ End ∷ []) in
    let bytes : List ℕ = stream_header version ++ rest in
    let R : Reading → Type 0 = λ r. ReadsAs r (cs ++ End ∷ []) in
    subst R (sym (header_step (length bytes) file version rest is))
    (reads_commands cs (length bytes) file version 1 header_len (read_version version is) inner (omega (arith, header_length version rest, commands_long version (cs ++ End ∷ []), length-append cs (End ∷ []))))
