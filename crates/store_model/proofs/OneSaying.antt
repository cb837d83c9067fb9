-- What a group says is said by its body alone: bytes are the body of one group at most.
use Rattle.std.specs.Prelude.{◌≡◌, ℕ, ◌+◌, ◌<◌, Bool, true, false, List, [], ◌∷◌, ◌++◌, length, map, drop, if◌then◌else◌}
use Rattle.std.specs.List.{AllByRecursion}
use Rattle.std.specs.Int.{w32, to_le_bytes}
use Rattle.std.proofs.Common.{refl, sym, ap, subst, ◌∙◌, arith, get_or, length-append, lit<}
use Rattle.std.proofs.lemmas.Bool.{true≢false}
use Rattle.std.proofs.lemmas.List.{append-nil}
use Rattle.send_model.specs.Checksum.{crc_of}
use Rattle.send_model.specs.Command.{Command}
use Rattle.send_model.specs.Spelling.{canonical, canonical_all, IsSpellable}
use Rattle.send_model.specs.Reading.{Front, item_at, front_of}
use Rattle.store_model.specs.Image.{sealed}
use Rattle.send_model.proofs.Canonical.{canonical_spells, spelled_front}
use Rattle.send_model.proofs.Fuel.{ok_same}
use Rattle.send_model.proofs.Streams.{canonical_long}
use Rattle.store_model.proofs.OneJournal.{front_one, back_one}
use Rattle.store_model.specs.Stored.{Content, Mark, Body, Drop, Group, number_of, content_bytes, body_bytes, IsEdit, IsContent, IsGroup}

-- a frame in front is the frame of one command, and what follows it is the same
pub frame_one : (version : ℕ) (c d : Command) (x y : List ℕ) → IsSpellable version c → IsSpellable version d → canonical version c ++ x ≡ canonical version d ++ y → (c ≡ d) × (x ≡ y)
frame_one version c d x y spells_c spells_d is =
    let sc = canonical_spells version c spells_c in
    let sd = canonical_spells version d spells_d in
    let same : record { item = item_at 1 version 1 0 sc.attributes c; rest = x } ≡ record { item = item_at 1 version 1 0 sd.attributes d; rest = y } =
    ok_same (sym (spelled_front 1 version 1 0 (canonical version c) x c sc) ∙ ap (front_of 1 version 1 0) is ∙ spelled_front 1 version 1 0 (canonical version d) y d sd) in
    (ap (λ (f : Front). f.item.command) same, ap (λ (f : Front). f.rest) same)

-- frames one after the other up to the end
pub frames_one : (version : ℕ) (cs ds : List Command) → AllByRecursion (IsEdit version) cs → AllByRecursion (IsEdit version) ds → canonical_all version cs ≡ canonical_all version ds → cs ≡ ds
unfolding canonical_all
frames_one version [] [] cs_are ds_are is = refl
frames_one version [] (d ∷ ds) cs_are ds_are is = absurd (omega (arith, ap length is, length-append (canonical version d) (canonical_all version ds), canonical_long version d))
frames_one version (c ∷ cs) [] cs_are ds_are is = absurd (omega (arith, ap length is, length-append (canonical version c) (canonical_all version cs), canonical_long version c))
frames_one version (c ∷ cs) (d ∷ ds) cs_are ds_are is =
    let first = frame_one version c d (canonical_all version cs) (canonical_all version ds) cs_are.0.1 ds_are.0.1 is in
    let others = frames_one version cs ds cs_are.1 ds_are.1 first.1 in
    λ i. first.0 i ∷ others i

-- bytes of one length in front
same_front : (a b x y : List ℕ) → length a ≡ length b → a ++ x ≡ b ++ y → (a ≡ b) × (x ≡ y)
same_front a b x y same is = (front_one a b x y same is, back_one a b x y same is)

-- the bytes in front of the checksum
seal_one : (a b : List ℕ) → sealed a ≡ sealed b → a ≡ b
seal_one a b is = front_one a b _ _ (omega (arith, ap length is, length-append a (to_le_bytes w32 (crc_of 0 a)), length-append b (to_le_bytes w32 (crc_of 0 b)))) is

-- a kind without regard to a checksum
kind : Content → ℕ
kind (Mark head) = 1
kind (Body uuid version commands) = 2
kind (Drop name) = 3

more : Bool → ℕ
more true = 3
more false = 0

number_is : (is_sealed : Bool) (c : Content) → number_of is_sealed c ≡ more is_sealed + kind c
unfolding kind more
number_is true (Mark head) = refl
number_is true (Body uuid version commands) = refl
number_is true (Drop name) = refl
number_is false (Mark head) = refl
number_is false (Body uuid version commands) = refl
number_is false (Drop name) = refl

kind_small : (c : Content) → (0 < kind c) × (kind c < 4)
unfolding kind
kind_small (Mark head) = (lit< tt, lit< tt)
kind_small (Body uuid version commands) = (lit< tt, lit< tt)
kind_small (Drop name) = (lit< tt, lit< tt)

-- a number says whether there is a checksum, and which kind it is
numbers_one : (s t : Bool) (c d : Content) → number_of s c ≡ number_of t d → (s ≡ t) × (kind c ≡ kind d)
unfolding more
numbers_one true true c d is = (refl, omega (arith, is, number_is true c, number_is true d))
numbers_one false false c d is = (refl, omega (arith, is, number_is false c, number_is false d))
numbers_one true false c d is = absurd (omega (arith, is, number_is true c, number_is false d, kind_small c, kind_small d))
numbers_one false true c d is = absurd (omega (arith, is, number_is false c, number_is true d, kind_small c, kind_small d))

-- what stands behind the number
content_one : (c d : Content) → IsContent c → IsContent d → kind c ≡ kind d → content_bytes c ≡ content_bytes d → c ≡ d
unfolding kind
content_one (Mark c) (Mark d) c_is d_is same is =
    ap Mark (frame_one 1 c d [] [] c_is d_is (append-nil (canonical 1 c) ∙ is ∙ sym (append-nil (canonical 1 d)))).0
content_one (Body u v cs) (Body w x ds) c_is d_is same is =
    let split = same_front u w (v ∷ canonical_all v cs) (x ∷ canonical_all x ds) (c_is.0 ∙ sym d_is.0) is in
    let version : v ≡ x = ap (λ (l : List ℕ). get_or l 0 0) split.1 in
    let frames : canonical_all v cs ≡ canonical_all x ds = ap (λ (l : List ℕ). drop 1 l) split.1 in
    let there : AllByRecursion (IsEdit v) ds = subst (λ (n : ℕ). AllByRecursion (IsEdit n) ds) (sym version) d_is.2 in
    let commands : cs ≡ ds = frames_one v cs ds c_is.2 there (frames ∙ ap (λ (n : ℕ). canonical_all n ds) (sym version)) in
    λ i. Body (split.0 i) (version i) (commands i)
content_one (Drop name) (Drop other) c_is d_is same is = ap Drop is
content_one (Mark c) (Body w x ds) c_is d_is same is = absurd (omega (arith, same))
content_one (Mark c) (Drop other) c_is d_is same is = absurd (omega (arith, same))
content_one (Body u v cs) (Mark d) c_is d_is same is = absurd (omega (arith, same))
content_one (Body u v cs) (Drop other) c_is d_is same is = absurd (omega (arith, same))
content_one (Drop name) (Mark d) c_is d_is same is = absurd (omega (arith, same))
content_one (Drop name) (Body w x ds) c_is d_is same is = absurd (omega (arith, same))

-- all in front of the checksum, if there is one
plain : Group → List ℕ
plain group = number_of group.is_sealed group.content ∷ content_bytes group.content

plain_one : (format : ℕ) (g h : Group) → IsGroup format g → IsGroup format h → plain g ≡ plain h → g ≡ h
unfolding plain
plain_one format g h g_is h_is is =
    let numbers = numbers_one g.is_sealed h.is_sealed g.content h.content (ap (λ (l : List ℕ). get_or l 0 0) is) in
    let content : g.content ≡ h.content = content_one g.content h.content g_is.content h_is.content numbers.1 (ap (λ (l : List ℕ). drop 1 l) is) in
    λ i. record { content = content i; is_sealed = numbers.0 i }

first_number : (g : Group) → get_or (body_bytes g) 0 0 ≡ number_of g.is_sealed g.content
first_number g = one g.is_sealed g.content
  where
    one : (s : Bool) (c : Content) → get_or (body_bytes (record { content = c; is_sealed = s })) 0 0 ≡ number_of s c
    one true c = refl
    one false c = refl

pub body_one : (format : ℕ) (g h : Group) → IsGroup format g → IsGroup format h → body_bytes g ≡ body_bytes h → g ≡ h
unfolding plain
body_one format g h g_is h_is is =
    let number : number_of g.is_sealed g.content ≡ number_of h.is_sealed h.content = sym (first_number g) ∙ ap (λ (l : List ℕ). get_or l 0 0) is ∙ first_number h in
    plain_one format g h g_is h_is (one g.is_sealed h.is_sealed (plain g) (plain h) (numbers_one g.is_sealed h.is_sealed g.content h.content number).0 is)
  where
    one : (s t : Bool) (x y : List ℕ) → s ≡ t → (if s then sealed x else x) ≡ (if t then sealed y else y) → x ≡ y
    one true true x y same q = seal_one x y q
    one false false x y same q = q
    one true false x y same q = absurd (true≢false same)
    one false true x y same q = absurd (true≢false (sym same))

-- the groups of some bodies
pub bodies_one : (format : ℕ) (gs hs : List Group) → AllByRecursion (IsGroup format) gs → AllByRecursion (IsGroup format) hs → map body_bytes gs ≡ map body_bytes hs → gs ≡ hs
bodies_one format [] [] gs_are hs_are is = refl
bodies_one format [] (h ∷ hs) gs_are hs_are is = absurd (omega (arith, ap length is))
bodies_one format (g ∷ gs) [] gs_are hs_are is = absurd (omega (arith, ap length is))
bodies_one format (g ∷ gs) (h ∷ hs) gs_are hs_are is =
    let first : g ≡ h = body_one format g h gs_are.0 hs_are.0 (ap (λ (l : List (List ℕ)). get_or l 0 []) is) in
    let others : gs ≡ hs = bodies_one format gs hs gs_are.1 hs_are.1 (ap (λ (l : List (List ℕ)). drop 1 l) is) in
    λ i. first i ∷ others i

-- ---- what a body is of

-- the number of its kind
pub number_in : (g : Group) (body : List ℕ) → body_bytes g ≡ body → get_or body 0 0 ≡ number_of g.is_sealed g.content
number_in g body is = ap (λ (l : List ℕ). get_or l 0 0) (sym is) ∙ first_number g

-- it is there, and one of six
pub number_known : (g : Group) → (0 < number_of g.is_sealed g.content) × (number_of g.is_sealed g.content < 7)
number_known g = one g.is_sealed g.content
  where
    one : (s : Bool) (c : Content) → (0 < number_of s c) × (number_of s c < 7)
    one true (Mark head) = (lit< tt, lit< tt)
    one true (Body uuid version commands) = (lit< tt, lit< tt)
    one true (Drop name) = (lit< tt, lit< tt)
    one false (Mark head) = (lit< tt, lit< tt)
    one false (Body uuid version commands) = (lit< tt, lit< tt)
    one false (Drop name) = (lit< tt, lit< tt)

-- a checksum is there exactly where it is above three
pub sealed_by : (g : Group) → 3 < number_of g.is_sealed g.content → g.is_sealed ≡ true
sealed_by g above = one g.is_sealed g.content above
  where
    one : (s : Bool) (c : Content) → 3 < number_of s c → s ≡ true
    one true c h = refl
    one false (Mark head) h = absurd (omega (arith, h))
    one false (Body uuid version commands) h = absurd (omega (arith, h))
    one false (Drop name) h = absurd (omega (arith, h))

pub plain_by : (g : Group) → number_of g.is_sealed g.content < 4 → g.is_sealed ≡ false
plain_by g below = one g.is_sealed g.content below
  where
    one : (s : Bool) (c : Content) → number_of s c < 4 → s ≡ false
    one false c h = refl
    one true (Mark head) h = absurd (omega (arith, h))
    one true (Body uuid version commands) h = absurd (omega (arith, h))
    one true (Drop name) h = absurd (omega (arith, h))

-- where a checksum is there, the last four bytes are that of those before them, and these are the
-- rest of what it says
pub seal_is : (g : Group) (bytes sum : List ℕ) → length sum ≡ 4 → g.is_sealed ≡ true → body_bytes g ≡ bytes ++ sum → (number_of true g.content ∷ content_bytes g.content ≡ bytes) × (sum ≡ to_le_bytes w32 (crc_of 0 bytes))
seal_is g bytes sum four own is =
    let said : List ℕ = number_of true g.content ∷ content_bytes g.content in
    let whole : said ++ to_le_bytes w32 (crc_of 0 said) ≡ bytes ++ sum = sym (ap (λ (s : Bool). body_bytes (record { content = g.content; is_sealed = s })) own) ∙ is in
    let size : length said ≡ length bytes = omega (arith, ap length whole, length-append said (to_le_bytes w32 (crc_of 0 said)), length-append bytes sum, four) in
    let front : said ≡ bytes = front_one said bytes (to_le_bytes w32 (crc_of 0 said)) sum size whole in
    (front, sym (back_one said bytes (to_le_bytes w32 (crc_of 0 said)) sum size whole) ∙ ap (λ (l : List ℕ). to_le_bytes w32 (crc_of 0 l)) front)

-- where none is there, the body is what it says
pub plain_is : (g : Group) (body : List ℕ) → g.is_sealed ≡ false → body_bytes g ≡ body → number_of false g.content ∷ content_bytes g.content ≡ body
plain_is g body own is = sym (ap (λ (s : Bool). body_bytes (record { content = g.content; is_sealed = s })) own) ∙ is
