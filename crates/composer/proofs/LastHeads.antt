-- The heads of items and of more items: the last of them, and where there is one.
use Rattle.std.specs.Prelude.{◌≡◌, List, [], ◌∷◌, ◌++◌, Option, None, Some}
use Rattle.std.proofs.Common.{refl, sym, ap, ◌∙◌}
use Rattle.std.proofs.lemmas.List.{map-append}
use Rattle.send_model.specs.Reading.{Item}
use Rattle.send_model.specs.Store.{Head, head_of}
use Rattle.send_model.specs.Receive.{first_of}
use Rattle.send_model.specs.Order.{heads, heads_of, onto_heads, commands_of}
use Rattle.send_model.specs.Composed.{last_head}
use Rattle.send_model.proofs.Composed.{last_there}
use Rattle.send_model.proofs.Writing.{heads_of-append}

pub heads_append : (items more : List Item) → heads (items ++ more) ≡ heads items ++ heads more
heads_append items more = ap heads_of (map-append (λ (item : Item). item.command) items more) ∙ heads_of-append (commands_of items) (commands_of more)

pub heads_more : (items : List Item) (item : Item) → heads (items ++ item ∷ []) ≡ heads items ++ onto_heads (head_of item.command) []
unfolding heads_of
heads_more items item = heads_append items (item ∷ [])

last_append : (hs more : List Head) → last_head (hs ++ more) ≡ first_of (last_head more) (last_head hs)
last_append [] more = none_before (last_head more)
  where
    none_before : (o : Option Head) → o ≡ first_of o None
    none_before None = refl
    none_before (Some head) = refl
last_append (h ∷ []) [] = refl
last_append (h ∷ []) (x ∷ more) = some_last x more
  where
    some_last : (x : Head) (more : List Head) → last_head (x ∷ more) ≡ first_of (last_head (x ∷ more)) (Some h)
    some_last x [] = refl
    some_last x (y ∷ more) = some_last y more
last_append (h ∷ next ∷ hs) more = last_append (next ∷ hs) more

first_assoc : (a b c : Option Head) → first_of a (first_of b c) ≡ first_of (first_of a b) c
first_assoc None b c = refl
first_assoc (Some head) b c = refl

-- The last head of items and then others, or else the one before them.
pub latest_append : (items more : List Item) (before : Option Head) → first_of (last_head (heads more)) (first_of (last_head (heads items)) before) ≡ first_of (last_head (heads (items ++ more))) before
latest_append items more before =
    first_assoc (last_head (heads more)) (last_head (heads items)) before
    ∙ ap (λ (o : Option Head). first_of o before) (sym (last_append (heads items) (heads more)) ∙ ap last_head (sym (heads_append items more)))

-- The same of one more item.
pub latest_more : (items : List Item) (item : Item) (before : Option Head) → first_of (head_of item.command) (first_of (last_head (heads items)) before) ≡ first_of (last_head (heads (items ++ item ∷ []))) before
unfolding heads_of
latest_more items item before = ap (λ (o : Option Head). first_of o (first_of (last_head (heads items)) before)) (sym (one (head_of item.command))) ∙ latest_append items (item ∷ []) before
  where
    one : (o : Option Head) → last_head (onto_heads o []) ≡ o
    one None = refl
    one (Some head) = refl

-- Before the first item.
pub latest_none : (before : Option Head) → first_of (last_head (heads [])) before ≡ before
unfolding heads_of
latest_none before = refl

-- Where there was none before.
pub latest_alone : (o : Option Head) → first_of o None ≡ o
latest_alone None = refl
latest_alone (Some head) = refl

later_last : (o : Option Head) (hs : List Head) (last : Head) → last_head hs ≡ Some last → last_head (onto_heads o hs) ≡ Some last
later_last None hs last e = e
later_last (Some head) [] last e = cc
later_last (Some head) (next ∷ hs) last e = e

-- Where an item is a head, there is a last head of all.
pub last_known : (items : List Item) (item : Item) (more : List Item) (head : Head) → head_of item.command ≡ Some head → (last : Head) × (last_head (heads (items ++ item ∷ more)) ≡ Some last)
unfolding heads_of
last_known [] item more head h =
    let l = last_there head (heads more) in
    (l.0, ap (λ (o : Option Head). last_head (onto_heads o (heads more))) h ∙ l.1)
last_known (x ∷ items) item more head h =
    let l = last_known items item more head h in
    (l.0, later_last (head_of x.command) (heads (items ++ item ∷ more)) l.0 l.1)
