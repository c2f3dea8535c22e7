use Rattle.std.proofs.Common.{◌≡◌, ◌∷◌, ◌∙◌, [], ap, Ok, sym, subst, Bor, List, ℕ}
use Rattle.game_text.specs.declared.parsed.Parsed.{Parsed}
use Rattle.hive_model.specs.Strings.{parts}
use Rattle.game_text.specs.Reading.{Agrees}
use Rattle.game_text.proofs.ReadLaws.{match_none, match_some, match_split}
use Rattle.game_text.proofs.FieldReads.{first}
use Rattle.game_text.proofs.reading.game_of.Goals as goal

pub returns-in_default : goal.returns-in_default
returns-in_default g c =
    let split = match_split c.cut.result.1 (parts c.args.text.now) c.cut.result.0.now (λ (r : Bor (List ℕ)). parts r.now) c.cut.ensures.parts in
    first c.args.repetition c.args.text.now _ split.0 _ split.1 (sym c.read_type.ensures.value ∙ c.in_default.is)

pub returns-in-None : goal.returns-in-None
returns-in-None g c =
    let split = match_none c.cut.result.1 (parts c.args.text.now ≡ c.cut.result.0.now ∷ []) (λ (r : Bor (List ℕ)). parts c.args.text.now ≡ c.cut.result.0.now ∷ parts r.now) c.in-None.is c.cut.ensures.parts in
    first c.args.repetition c.args.text.now _ [] _ split (sym c.read_type.ensures.value ∙ c.in-Some.is)
    ∙ ap (λ (g : Parsed). Ok g) (sym c.opening_of.ensures)

pub returns-in-Some-more : goal.returns-in-Some-more
returns-in-Some-more g c =
    let split = match_some c.cut.result.1 _ (λ (r : Bor (List ℕ)). parts c.args.text.now ≡ c.cut.result.0.now ∷ parts r.now) c.in-Some-more.rest c.in-Some-more.is c.cut.ensures.parts in
    subst (Agrees c.read_state_on.result) (sym (first c.args.repetition c.args.text.now _ (parts c.in-Some-more.rest.now) _ split (sym c.read_type.ensures.value ∙ c.in-Some.is))) c.read_state_on.ensures
