use Rattle.std.proofs.Common.{◌≡◌, ℕ, List, [], map, inl, inr, Some, sym, ap, ◌∙◌}
use Rattle.std.specs.Prelude.{slice_get, string_bytes, unwrap_or}
use Rattle.std.specs.Option.{option_map}
use Rattle.std.specs.declared.option.Option.{Option}
use Rattle.std.proofs.lemmas.Option.{slice_get-map}
use Rattle.run_words.proofs.job.is_threaded.Goals as goal

pub returns-in-Some : goal.returns-in-Some
returns-in-Some c =
    let first : slice_get (map string_bytes c.args.words.now) 0 ≡ Some (string_bytes c.in-Some.word.now) =
    slice_get-map string_bytes c.args.words.now 0 ∙ ap (option_map string_bytes) (sym c.in-Some.ensures.value) in
    let there : (w : List ℕ) → c.as_str.result.now ≡ w → slice_get (map string_bytes c.args.words.now) 0 ≡ Some w =
    λ w is. first ∙ ap (λ (v : List ℕ). Some v) (sym c.as_str.ensures.value ∙ is) in
    let here : (w : List ℕ) → slice_get (map string_bytes c.args.words.now) 0 ≡ Some w → c.as_str.result.now ≡ w =
    λ w is. c.as_str.ensures.value ∙ ap (λ (o : Option (List ℕ)). unwrap_or o []) (sym first ∙ is) in (
      λ yes. elim (c.names_threads.ensures.0 yes) [
        | inl render ↦ inl (there _ render)
        | inr (inl demo) ↦ inr (inl (there _ demo))
        | inr (inr last) ↦ inr (inr (there _ last))
      ],
      λ named. c.names_threads.ensures.1 (elim named [
        | inl render ↦ inl (here _ render)
        | inr (inl demo) ↦ inr (inl (here _ demo))
        | inr (inr last) ↦ inr (inr (here _ last))
      ]),
    )
