-- The numbers of a chain, drawn one after the other.
use Rattle.std.specs.Prelude.{◌≡◌, ℕ, zero, suc, ◌+◌, ◌-◌, ◌*◌, ◌%◌, ◌≤◌, ◌==◌, Bool, false, List, ◌++◌, if◌then◌else◌}
use Rattle.std.proofs.Common.{refl, sym, ap, ◌∙◌, arith}
use Rattle.send_model.specs.Command.{Command}
use Rattle.send_model.specs.Spelling.{stream_header, canonical_all}
use Rattle.send_model.specs.Generated.{next_number, drawn, number_after, draw, part_uuid, first_part, later_part}
use Rattle.stream_gen.specs.Parts.{part_of, part_bytes, number_at, nth, first_by, part_by}

-- A later part by the numbers that are drawn for it, one by one.
abbrev part_drawn : (uuid before : List ℕ) (part file block byte source source_block goal goal_block : ℕ) → List Command
part_drawn uuid before part file block byte source source_block goal goal_block =
    part_by uuid before part (record { file = file; block = block; byte = byte; source = source; source_block = source_block; goal = goal; goal_block = goal_block; number = 0 })

-- So many numbers on, and then so many more.
pub number_further : (a b x : ℕ) → number_after (a + b) x ≡ number_after b (number_after a x)
unfolding number_after
number_further zero b x = let same : 0 + b ≡ b = omega arith in ap (λ (n : ℕ). number_after n x) same
number_further (suc a) b x = let same : suc a + b ≡ suc (a + b) = omega arith in ap (λ (n : ℕ). number_after n x) same ∙ number_further a b (next_number x)

-- Seven numbers, one after the other.
pub record Seven (x a b c d e f g : ℕ) : Type 0 where
  pub first : a ≡ number_after 1 x
  pub second : b ≡ number_after 2 x
  pub third : c ≡ number_after 3 x
  pub fourth : d ≡ number_after 4 x
  pub fifth : e ≡ number_after 5 x
  pub sixth : f ≡ number_after 6 x
  pub seventh : g ≡ number_after 7 x

one : (x a : ℕ) → a ≡ next_number x → a ≡ number_after 1 x
unfolding number_after
one x a is = is

more : (k x a b : ℕ) → a ≡ number_after k x → b ≡ next_number a → b ≡ number_after (k + 1) x
more k x a b is next = next ∙ ap next_number is ∙ sym (number_further k 1 x ∙ sym (one (number_after k x) (next_number (number_after k x)) refl))

pub seven : (x a b c d e f g : ℕ) → a ≡ next_number x → b ≡ next_number a → c ≡ next_number b → d ≡ next_number c → e ≡ next_number d → f ≡ next_number e → g ≡ next_number f → Seven x a b c d e f g
seven x a b c d e f g ea eb ec ed ee ef eg =
    let first : a ≡ number_after 1 x = one x a ea in
    let second : b ≡ number_after 2 x = more 1 x a b first eb in
    let third : c ≡ number_after 3 x = more 2 x b c second ec in
    let fourth : d ≡ number_after 4 x = more 3 x c d third ed in
    let fifth : e ≡ number_after 5 x = more 4 x d e fourth ee in
    let sixth : f ≡ number_after 6 x = more 5 x e f fifth ef in
    record { first = first; second = second; third = third; fourth = fourth; fifth = fifth; sixth = sixth; seventh = more 6 x f g sixth eg }

draw_from : (seed before turn below : ℕ) → draw seed (before + turn) below ≡ nth (number_after before seed) turn below
draw_from seed before turn below = ap (λ (x : ℕ). drawn x % below) (number_further before turn seed)

-- Each number that is drawn may be given in another way, and so may the identifiers.
same_part : (uuid before uuid2 before2 : List ℕ) (part a b c d e f g a2 b2 c2 d2 e2 f2 g2 : ℕ) → uuid ≡ uuid2 → before ≡ before2 → a ≡ a2 → b ≡ b2 → c ≡ c2 → d ≡ d2 → e ≡ e2 → f ≡ f2 → g ≡ g2
    → part_drawn uuid before part a b c d e f g ≡ part_drawn uuid2 before2 part a2 b2 c2 d2 e2 f2 g2
same_part u v u2 v2 part a b c d e f g a2 b2 c2 d2 e2 f2 g2 eu ev ea eb ec ed ee ef eg =
    ap (λ (l : List ℕ). part_drawn l v part a b c d e f g) eu ∙ ap (λ (l : List ℕ). part_drawn u2 l part a b c d e f g) ev
    ∙ ap (λ (n : ℕ). part_drawn u2 v2 part n b c d e f g) ea ∙ ap (λ (n : ℕ). part_drawn u2 v2 part a2 n c d e f g) eb
    ∙ ap (λ (n : ℕ). part_drawn u2 v2 part a2 b2 n d e f g) ec ∙ ap (λ (n : ℕ). part_drawn u2 v2 part a2 b2 c2 n e f g) ed
    ∙ ap (λ (n : ℕ). part_drawn u2 v2 part a2 b2 c2 d2 n f g) ee ∙ ap (λ (n : ℕ). part_drawn u2 v2 part a2 b2 c2 d2 e2 n g) ef
    ∙ ap (λ (n : ℕ). part_drawn u2 v2 part a2 b2 c2 d2 e2 f2 n) eg

-- A later part by the number that stands before it.
later_is : (seed part x : ℕ) → x ≡ number_after (7 * (part - 2)) seed
    → later_part seed part ≡ part_drawn (part_uuid seed part) (part_uuid seed (part - 1)) part (nth x 1 8) (nth x 2 3) (nth x 3 256) (nth x 4 8) (nth x 5 3) (nth x 6 8) (nth x 7 3)
unfolding later_part
later_is seed part x is =
    let before : ℕ = 7 * (part - 2) in
    let each : (turn below : ℕ) → draw seed (before + turn) below ≡ nth x turn below =
    λ turn below. draw_from seed before turn below ∙ ap (λ (y : ℕ). nth y turn below) (sym is) in
    same_part (part_uuid seed part) (part_uuid seed (part - 1)) (part_uuid seed part) (part_uuid seed (part - 1)) part
    (draw seed (before + 1) 8) (draw seed (before + 2) 3) (draw seed (before + 3) 256) (draw seed (before + 4) 8) (draw seed (before + 5) 3) (draw seed (before + 6) 8) (draw seed (before + 7) 3)
    (nth x 1 8) (nth x 2 3) (nth x 3 256) (nth x 4 8) (nth x 5 3) (nth x 6 8) (nth x 7 3)
    refl refl (each 1 8) (each 2 3) (each 3 256) (each 4 8) (each 5 3) (each 6 8) (each 7 3)

-- ---- the chain as it goes on

pub number_first : (seed : ℕ) → seed ≡ number_at seed 0
unfolding number_at number_after
number_first seed = refl

pub number_second : (seed parts : ℕ) → parts ≡ 0 → number_at seed (parts + 1) ≡ number_at seed parts
unfolding number_at number_after
number_second seed parts none = ap (λ (n : ℕ). number_after (7 * (n + 1 - 1)) seed) none ∙ sym (ap (λ (n : ℕ). number_after (7 * (n - 1)) seed) none)

pub number_next : (seed parts number after : ℕ) → 1 ≤ parts → number ≡ number_at seed parts → after ≡ number_after 7 number → after ≡ number_at seed (parts + 1)
unfolding number_at
number_next seed parts number after some is next =
    let turns : 7 * (parts + 1 - 1) ≡ 7 * (parts - 1) + 7 = omega (arith, some) in
    next ∙ ap (number_after 7) is ∙ sym (number_further (7 * (parts - 1)) 7 seed) ∙ sym (ap (λ (n : ℕ). number_after n seed) turns)

pub first_bytes : (seed parts : ℕ) (uuid : List ℕ) → parts ≡ 0 → uuid ≡ part_uuid seed 1 → stream_header 1 ++ canonical_all 1 (first_by uuid) ≡ part_bytes seed (parts + 1)
unfolding part_bytes first_part
first_bytes seed parts uuid none is =
    ap (λ (l : List ℕ). stream_header 1 ++ canonical_all 1 (first_by l)) is
    ∙ sym (ap (λ (n : ℕ). stream_header 1 ++ canonical_all 1 (part_of seed (n + 1))) none)

pub not_first : (part : ℕ) → 2 ≤ part → (part == 1) ≡ false
not_first part later = grind arith

pub later_bytes : (seed parts number : ℕ) (uuid before : List ℕ) (file block byte source source_block goal goal_block : ℕ) → 1 ≤ parts → number ≡ number_at seed parts
    → uuid ≡ part_uuid seed (parts + 1) → before ≡ part_uuid seed parts
    → file ≡ nth number 1 8 → block ≡ nth number 2 3 → byte ≡ nth number 3 256 → source ≡ nth number 4 8 → source_block ≡ nth number 5 3
    → goal ≡ nth number 6 8 → goal_block ≡ nth number 7 3
    → stream_header 1 ++ canonical_all 1 (part_drawn uuid before (parts + 1) file block byte source source_block goal goal_block) ≡ part_bytes seed (parts + 1)
unfolding part_bytes number_at
later_bytes seed parts number uuid before file block byte source source_block goal goal_block some is eu ev ea eb ec ed ee ef eg =
    let turns : parts - 1 ≡ parts + 1 - 2 = omega (arith, some) in
    let last : parts ≡ parts + 1 - 1 = omega arith in
    let from : number ≡ number_after (7 * (parts + 1 - 2)) seed = is ∙ ap (λ (n : ℕ). number_after (7 * n) seed) turns in
    let whole : part_drawn uuid before (parts + 1) file block byte source source_block goal goal_block ≡ later_part seed (parts + 1) =
    same_part uuid before (part_uuid seed (parts + 1)) (part_uuid seed (parts + 1 - 1)) (parts + 1) file block byte source source_block goal goal_block
    (nth number 1 8) (nth number 2 3) (nth number 3 256) (nth number 4 8) (nth number 5 3) (nth number 6 8) (nth number 7 3)
    eu (ev ∙ ap (part_uuid seed) last) ea eb ec ed ee ef eg
    ∙ sym (later_is seed (parts + 1) number from) in
    ap (λ (cs : List Command). stream_header 1 ++ canonical_all 1 cs) whole
    ∙ sym (ap (λ (b : Bool). stream_header 1 ++ canonical_all 1 (if b then first_part seed else later_part seed (parts + 1))) (not_first (parts + 1) (omega (arith, some))))
