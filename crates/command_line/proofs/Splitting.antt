-- Guard words in front of others, one after the other.
use Rattle.std.specs.Prelude.{◌≡◌, ℕ, ◌+◌, ◌≤◌, Bool, true, false, List, [], ◌∷◌, ◌++◌, length, take, drop, Option, None, Some, if◌then◌else◌}
use Rattle.std.specs.List.{cons_option}
use Rattle.std.specs.Option.{option_map}
use Rattle.std.proofs.Common.{refl, sym, ap, ◌∙◌, append_assoc, append-nil}
use Rattle.std.proofs.lemmas.List.{drop_all}
use Rattle.send_model.specs.Guards.{GuardSpec, guard_of, is_guard_word}
use Rattle.program_model.specs.Requests.{Request, Arguments, guarded, with_one_more}
use Rattle.command_line.specs.Given.{guards_in}
use Rattle.command_line.specs.Splits.{Split, with_guard, guards_split}
use Rattle.command_line.proofs.Places.{front_more}

-- ---- what the definitions make of them

abbrev pub behind : (List GuardSpec → Arguments) → Option Split → Option Request
behind request None = None
behind request (Some split) = request split.guards split.words

pub guarded_is : (request : List GuardSpec → Arguments) (words : List (List ℕ)) → guarded request words ≡ behind request (guards_split words)
unfolding guarded
guarded_is request [] = refl
guarded_is request (word ∷ words) = one (is_guard_word word) (guard_of word) (λ guard. guarded_is (with_one_more request guard) words)
  where
    two : (guard : GuardSpec) (split : Option Split) → behind (with_one_more request guard) split ≡ behind request (option_map (with_guard guard) split)
    two guard None = refl
    two guard (Some split) = refl

    one : (is : Bool) (said : Option GuardSpec) → ((guard : GuardSpec) → guarded (with_one_more request guard) words ≡ behind (with_one_more request guard) (guards_split words))
        → (if is then elim said [ None ↦ None | Some guard ↦ guarded (with_one_more request guard) words ] else request [] (word ∷ words))
        ≡ behind request (if is then elim said [ None ↦ None | Some guard ↦ option_map (with_guard guard) (guards_split words) ] else Some (record { guards = []; words = word ∷ words }))
    one true None more = refl
    one true (Some guard) more = more guard ∙ two guard (guards_split words)
    one false said more = refl

-- ---- one word more

-- Guards in front of others.
abbrev ahead : List GuardSpec → Option Split → Option Split
ahead guards None = None
ahead guards (Some split) = Some (record { guards = guards ++ split.guards; words = split.words })

ahead_none : (split : Option Split) → split ≡ ahead [] split
ahead_none None = refl
ahead_none (Some split) = refl

ahead_more : (guards : List GuardSpec) (guard : GuardSpec) (split : Option Split) → ahead guards (option_map (with_guard guard) split) ≡ ahead (guards ++ guard ∷ []) split
ahead_more guards guard None = refl
ahead_more guards guard (Some split) = ap (λ (l : List GuardSpec). Some (record { guards = l; words = split.words })) (sym (append_assoc guards (guard ∷ []) split.guards))

-- The words in front of a place mean guards, and it is to be seen what stands from there on.
pub record IsPassed (words : List (List ℕ)) (place : ℕ) : Type 0 where
  pub is : guards_split words ≡ ahead (guards_in (take place words)) (guards_split (drop place words))

pub passed_none : (words : List (List ℕ)) → IsPassed words 0
passed_none words = record { is = ahead_none (guards_split words) }

in_more : (words : List (List ℕ)) (word : List ℕ) (guard : GuardSpec) → guard_of word ≡ Some guard → guards_in (words ++ word ∷ []) ≡ guards_in words ++ guard ∷ []
in_more [] word guard means = ap (λ (o : Option GuardSpec). cons_option o []) means
in_more (w ∷ words) word guard means = one (guard_of w) (in_more words word guard means)
  where
    one : (o : Option GuardSpec) → guards_in (words ++ word ∷ []) ≡ guards_in words ++ guard ∷ []
        → cons_option o (guards_in (words ++ word ∷ [])) ≡ cons_option o (guards_in words) ++ guard ∷ []
    one None more = more
    one (Some spec) more = ap (λ (l : List GuardSpec). spec ∷ l) more

-- What a first word makes of others.
abbrev chosen : Bool → Option GuardSpec → List ℕ → List (List ℕ) → Option Split
chosen is said word words = if is
    then elim said as (λ x. Option Split) [ None ↦ None | Some guard ↦ option_map (with_guard guard) (guards_split words) ]
    else Some (record { guards = []; words = word ∷ words })

pub passed_guard : (words rest : List (List ℕ)) (place : ℕ) (word : List ℕ) (guard : GuardSpec) → drop place words ≡ word ∷ rest → drop (place + 1) words ≡ rest
    → is_guard_word word ≡ true → guard_of word ≡ Some guard → IsPassed words place → IsPassed words (place + 1)
passed_guard words rest place word guard here after is means p =
    let front : List GuardSpec = guards_in (take place words) in record {
      is = p.is
          ∙ ap (λ (l : List (List ℕ)). ahead front (guards_split l)) here
          ∙ ap (λ (b : Bool). ahead front (chosen b (guard_of word) word rest)) is
          ∙ ap (λ (o : Option GuardSpec). ahead front (chosen true o word rest)) means
          ∙ ahead_more front guard (guards_split rest)
          ∙ ap (λ (l : List GuardSpec). ahead l (guards_split rest)) (sym (in_more (take place words) word guard means))
          ∙ ap (λ (l : List (List ℕ)). ahead (guards_in l) (guards_split rest)) (sym (front_more words rest place word here))
          ∙ ap (λ (l : List (List ℕ)). ahead (guards_in (take (place + 1) words)) (guards_split l)) (sym after);
    }

-- A guard word that means no guard, a word that is no guard's, and the end.
pub split_wrong : (words rest : List (List ℕ)) (place : ℕ) (word : List ℕ) → drop place words ≡ word ∷ rest → is_guard_word word ≡ true → guard_of word ≡ None
    → IsPassed words place → guards_split words ≡ None
split_wrong words rest place word here is means p =
    let front : List GuardSpec = guards_in (take place words) in
    p.is
    ∙ ap (λ (l : List (List ℕ)). ahead front (guards_split l)) here
    ∙ ap (λ (b : Bool). ahead front (chosen b (guard_of word) word rest)) is
    ∙ ap (λ (o : Option GuardSpec). ahead front (chosen true o word rest)) means

abbrev pub split_at : List (List ℕ) → ℕ → Split
split_at words place = record { guards = guards_in (take place words); words = drop place words }

abbrev behind_front : List (List ℕ) → ℕ → List (List ℕ) → Option Split
behind_front words place left = Some (record { guards = guards_in (take place words) ++ []; words = left })

ended : (words left : List (List ℕ)) (place : ℕ) → drop place words ≡ left → behind_front words place left ≡ Some (split_at words place)
ended words left place here =
    ap (λ (l : List GuardSpec). Some (record { guards = l; words = left })) (append-nil (guards_in (take place words)))
    ∙ ap (λ (l : List (List ℕ)). Some (record { guards = guards_in (take place words); words = l })) (sym here)

pub split_here : (words rest : List (List ℕ)) (place : ℕ) (word : List ℕ) → drop place words ≡ word ∷ rest → is_guard_word word ≡ false
    → IsPassed words place → guards_split words ≡ Some (split_at words place)
split_here words rest place word here is p =
    let front : List GuardSpec = guards_in (take place words) in
    p.is
    ∙ ap (λ (l : List (List ℕ)). ahead front (guards_split l)) here
    ∙ ap (λ (b : Bool). ahead front (chosen b (guard_of word) word rest)) is
    ∙ ended words (word ∷ rest) place here

pub split_end : (words : List (List ℕ)) (place : ℕ) → length words ≤ place → IsPassed words place → guards_split words ≡ Some (split_at words place)
split_end words place past p =
    p.is ∙ ap (λ (l : List (List ℕ)). ahead (guards_in (take place words)) (guards_split l)) (drop_all place words past) ∙ ended words [] place (drop_all place words past)

-- ---- what a place behind the guard words says

pub guarded_none : (request : List GuardSpec → Arguments) (words : List (List ℕ)) (end : Option ℕ) → option_map (split_at words) end ≡ guards_split words
    → end ≡ None → guarded request words ≡ None
guarded_none request words end is none = guarded_is request words ∙ ap (behind request) (sym is ∙ ap (option_map (split_at words)) none)

pub guarded_some : (request : List GuardSpec → Arguments) (words : List (List ℕ)) (end : Option ℕ) (place : ℕ) → option_map (split_at words) end ≡ guards_split words
    → end ≡ Some place → guarded request words ≡ request (guards_in (take place words)) (drop place words)
guarded_some request words end place is some = guarded_is request words ∙ ap (behind request) (sym is ∙ ap (option_map (split_at words)) some)
