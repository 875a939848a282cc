use Rattle.std.proofs.Common.{◌<◌, ◌∷◌, [], List, ℕ, ap₂, sym, refl, rules}
use Rattle.command_line.specs.Words.Setting.{TilesOf, DepthOf, SeedOf, SizeOf}
use Rattle.command_line.proofs.option.option_with.Goals as goal

pub returns-in_ok-tiles-in-text : goal.returns-in_ok-tiles-in-text
returns-in_ok-tiles-in-text c =
    let columns : c.in_ok-tiles-in-text.field-0.0 < 18446744073709551616 = search rules in
    let rows : c.in_ok-tiles-in-text.field-0.1 < 18446744073709551616 = search rules in
    record {
      setting = TilesOf c.in_ok-tiles-in-text.field-0.0 c.in_ok-tiles-in-text.field-0.1;
      named = refl;
      parts = ap₂ (λ (w v : List ℕ). w ∷ v ∷ []) (sym c.in-text.is) (sym c.in_ok-tiles-in-text.ensures);
      fits = (columns, rows);
    }

pub returns-in_ok-number-in-text-2 : goal.returns-in_ok-number-in-text-2
returns-in_ok-number-in-text-2 c = record {
  setting = DepthOf c.in_ok-number-in-text-2.field-0;
  named = refl;
  parts = ap₂ (λ (w v : List ℕ). w ∷ v ∷ []) (sym c.in-text-2.is) (sym c.in_ok-number-in-text-2.ensures);
  fits = search rules;
}

pub returns-in_ok-number-in-text-3 : goal.returns-in_ok-number-in-text-3
returns-in_ok-number-in-text-3 c = record {
  setting = SeedOf c.in_ok-number-in-text-3.field-0;
  named = refl;
  parts = ap₂ (λ (w v : List ℕ). w ∷ v ∷ []) (sym c.in-text-3.is) (sym c.in_ok-number-in-text-3.ensures);
  fits = search rules;
}

pub returns-in_ok-number-in-text-4 : goal.returns-in_ok-number-in-text-4
returns-in_ok-number-in-text-4 c = record {
  setting = SizeOf c.in_ok-number-in-text-4.field-0;
  named = refl;
  parts = ap₂ (λ (w v : List ℕ). w ∷ v ∷ []) (sym c.in-text-4.is) (sym c.in_ok-number-in-text-4.ensures);
  fits = search rules;
}
