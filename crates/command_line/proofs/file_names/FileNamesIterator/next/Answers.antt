use Rattle.std.specs.Prelude.{ℕ, ◌+◌, ◌-◌, List, ◌∷◌, ◌++◌, [], map, take, drop, length, Option}
use Rattle.std.specs.String.{string_bytes}
use Rattle.std.proofs.Common.{Bor, sym, ap, ◌∙◌, arith}
use Rattle.std.proofs.lemmas.List.{get_or-map}
use Rattle.command_line.specs.Names.{lone_name, names_in}
use Rattle.command_line.proofs.Places.{words_behind}
use Rattle.command_line.proofs.file_names.FileNamesIterator.next.Goals as goal

pub returns-clause-steps : goal.returns-clause-steps
returns-clause-steps c =
    let place : ℕ = c.in_ok-place.place in
    let words : List (List ℕ) = map string_bytes c.self.inside.words.now in
    let left : List (List ℕ) = map string_bytes (take (length c.self.inside.words.now - (place + 1)) (drop (place + 1) c.self.inside.words.now)) in
    let name : List ℕ = c.as_str-name.result.now in
    sym c.self.view_is
    ∙ ap (λ (lone : Option (Bor (List ℕ))). lone_name lone ++ names_in c.self.inside.among words) c.in_default.is
    ∙ c.in_ok-place.ensures.first
    ∙ ap (λ (word : List ℕ). word ∷ names_in c.self.inside.among (drop (place + 1) words))
    (get_or-map string_bytes c.self.inside.words.now place c.index-self-place.result [] c.in_ok-place.ensures.within ∙ sym c.as_str-name.ensures.value)
    ∙ ap (λ (rest : List (List ℕ)). name ∷ names_in c.self.inside.among rest) (sym (words_behind string_bytes c.self.inside.words.now (place + 1)))
    ∙ ap (λ (lone : Option (Bor (List ℕ))). name ∷ (lone_name lone ++ names_in c.self.inside.among left)) (sym c.in_default.is)

pub returns-clause-goes : goal.returns-clause-goes
returns-clause-goes c = let first = returns-clause-steps c in
    record { on = λ _. (tt, tt, omega (arith, ap length first)); keeps = tt; rests = λ _. tt }
