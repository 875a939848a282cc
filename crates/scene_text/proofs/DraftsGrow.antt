-- What each line adds to what was said.
use Rattle.std.proofs.Common.{◌≡◌, ℕ, ◌<◌, ◌≤◌, ◌==◌, cond, List, [], ◌∷◌, ◌++◌, map, pos, refl, sym, ap, ◌∙◌, arith, append-nil, append_assoc}
use Rattle.std.specs.List.{flat_map}
use Rattle.std.proofs.lemmas.Bool.{ne_eqb, eq-eqb}
use Rattle.std.proofs.lemmas.Grind.{flat_map-append}
use Rattle.std.proofs.lemmas.List.{map-append}
use Rattle.rc_base.specs.declared.command.Command.{Command}
use Rattle.rc_base.specs.declared.scene.Decl.{Decl}
use Rattle.rc_base.specs.declared.text.LineName.TheVariants as line
use Rattle.scene_text.specs.Text.Statements.{statement, window_statement, shared_statement, barrier_statement, semaphore_statement, command_statement, decl_statements, client_statements}
use Rattle.scene_text.specs.declared.draft.Draft.{Draft}
use Rattle.scene_text.specs.Drafts.{said, open_client, IsDraft, Adds}

-- from the window to the first client
pub declared : (d : Draft) → 1 ≤ d.rank → d.rank < 5 → d.streams ≡ [] → said d ≡ decl_statements d.decl
unfolding said
declared d a b s =
    let D = decl_statements d.decl in
    ap (λ t. cond t [] (D ++ (flat_map client_statements d.streams ++ cond (d.rank == 5) (client_statements d.stream) []))) (ne_eqb d.rank 0 (omega arith))
    ∙ ap (λ t. D ++ (flat_map client_statements d.streams ++ cond t (client_statements d.stream) [])) (ne_eqb d.rank 5 (omega arith))
    ∙ ap (λ l. D ++ (flat_map client_statements l ++ [])) s
    ∙ append-nil D

-- with clients
pub attended : (d : Draft) → d.rank ≡ 5 → said d ≡ decl_statements d.decl ++ (flat_map client_statements d.streams ++ client_statements d.stream)
unfolding said
attended d a =
    let D = decl_statements d.decl in
    ap (λ t. cond t [] (D ++ (flat_map client_statements d.streams ++ cond (d.rank == 5) (client_statements d.stream) []))) (ne_eqb d.rank 0 (omega arith))
    ∙ ap (λ t. D ++ (flat_map client_statements d.streams ++ cond t (client_statements d.stream) [])) (eq-eqb d.rank 5 a)

silent : (d : Draft) → d.rank ≡ 0 → said d ≡ []
unfolding said
silent d a = ap (λ t. cond t [] (decl_statements d.decl ++ (flat_map client_statements d.streams ++ open_client d))) (eq-eqb d.rank 0 a)

more_shared : (d : Decl) (size : List ℕ) → d.barriers ≡ [] → d.semaphores ≡ []
    → decl_statements (record d { shared = d.shared ++ size ∷ [] }) ≡ decl_statements d ++ shared_statement size ∷ []
more_shared d size b u =
    let w = window_statement d in
    let front = map shared_statement d.shared in
    let x = shared_statement size in
    (λ i. w ∷ (map shared_statement (d.shared ++ size ∷ []) ++ (map barrier_statement (b i) ++ map semaphore_statement (u i))))
    ∙ ap (λ l. w ∷ l) (append-nil (map shared_statement (d.shared ++ size ∷ [])) ∙ map-append shared_statement d.shared (size ∷ []) ∙ ap (λ l. l ++ x ∷ []) (sym (append-nil front)))
    ∙ sym (λ i. (w ∷ (front ++ (map barrier_statement (b i) ++ map semaphore_statement (u i)))) ++ x ∷ [])

more_barrier : (d : Decl) (count : ℕ) → d.semaphores ≡ []
    → decl_statements (record d { barriers = d.barriers ++ count ∷ [] }) ≡ decl_statements d ++ barrier_statement count ∷ []
more_barrier d count u =
    let w = window_statement d in
    let shared = map shared_statement d.shared in
    let front = map barrier_statement d.barriers in
    let x = barrier_statement count in
    (λ i. w ∷ (shared ++ (map barrier_statement (d.barriers ++ count ∷ []) ++ map semaphore_statement (u i))))
    ∙ ap (λ l. w ∷ (shared ++ l)) (append-nil (map barrier_statement (d.barriers ++ count ∷ [])) ∙ map-append barrier_statement d.barriers (count ∷ []) ∙ ap (λ l. l ++ x ∷ []) (sym (append-nil front)))
    ∙ ap (λ l. w ∷ l) (sym (append_assoc shared (front ++ []) (x ∷ [])))
    ∙ sym (λ i. (w ∷ (shared ++ (front ++ map semaphore_statement (u i)))) ++ x ∷ [])

more_semaphore : (d : Decl) (units : ℕ) → decl_statements (record d { semaphores = d.semaphores ++ units ∷ [] }) ≡ decl_statements d ++ semaphore_statement units ∷ []
more_semaphore d units = ap (λ l. window_statement d ∷ l) (simp (map-append, append_assoc))

pub adds_window : (d : Draft) (version width height : ℕ) → IsDraft d → d.rank ≡ 0
    → Adds d (record d { rank = 1; decl = record d.decl { version = version; width = width; height = height } })
    (statement line.Scene (pos version ∷ pos width ∷ pos height ∷ []) [])
adds_window d version width height h a =
    let e : Draft = record d { rank = 1; decl = record d.decl { version = version; width = width; height = height } } in
    let s : d.decl.shared ≡ [] = h.shared (omega arith) in
    let b : d.decl.barriers ≡ [] = h.barriers (omega arith) in
    let u : d.decl.semaphores ≡ [] = h.semaphores (omega arith) in
    let c : d.streams ≡ [] = h.streams (omega arith) in
    record {
      draft = record { rank = omega arith; shared = λ _. s; barriers = λ _. b; semaphores = λ _. u; streams = λ _. c; stream = λ _. h.stream (omega arith) };
      said = declared e (omega arith) (omega arith) c ∙ rw (s, b, u) refl ∙ sym (ap (λ l. l ++ window_statement e.decl ∷ []) (silent d a));
      rank = refl;
    }

pub adds_shared : (d : Draft) (size : List ℕ) → IsDraft d → 1 ≤ d.rank → d.rank ≤ 2
    → Adds d (record d { rank = 2; decl = record d.decl { shared = d.decl.shared ++ size ∷ [] } }) (shared_statement size)
adds_shared d size h low high =
    let e : Draft = record d { rank = 2; decl = record d.decl { shared = d.decl.shared ++ size ∷ [] } } in
    let b : d.decl.barriers ≡ [] = h.barriers (omega arith) in
    let u : d.decl.semaphores ≡ [] = h.semaphores (omega arith) in
    let c : d.streams ≡ [] = h.streams (omega arith) in
    record {
      draft = record { rank = omega arith; shared = λ l. absurd (omega arith); barriers = λ _. b; semaphores = λ _. u; streams = λ _. c; stream = λ _. h.stream (omega arith) };
      said = declared e (omega arith) (omega arith) c ∙ more_shared d.decl size b u ∙ sym (ap (λ l. l ++ shared_statement size ∷ []) (declared d low (omega arith) c));
      rank = refl;
    }

pub adds_barrier : (d : Draft) (count : ℕ) → IsDraft d → 1 ≤ d.rank → d.rank ≤ 3
    → Adds d (record d { rank = 3; decl = record d.decl { barriers = d.decl.barriers ++ count ∷ [] } }) (barrier_statement count)
adds_barrier d count h low high =
    let e : Draft = record d { rank = 3; decl = record d.decl { barriers = d.decl.barriers ++ count ∷ [] } } in
    let u : d.decl.semaphores ≡ [] = h.semaphores (omega arith) in
    let c : d.streams ≡ [] = h.streams (omega arith) in
    record {
      draft = record { rank = omega arith; shared = λ l. absurd (omega arith); barriers = λ l. absurd (omega arith); semaphores = λ _. u; streams = λ _. c; stream = λ _. h.stream (omega arith) };
      said = declared e (omega arith) (omega arith) c ∙ more_barrier d.decl count u ∙ sym (ap (λ l. l ++ barrier_statement count ∷ []) (declared d low (omega arith) c));
      rank = refl;
    }

pub adds_semaphore : (d : Draft) (units : ℕ) → IsDraft d → 1 ≤ d.rank → d.rank ≤ 4
    → Adds d (record d { rank = 4; decl = record d.decl { semaphores = d.decl.semaphores ++ units ∷ [] } }) (semaphore_statement units)
adds_semaphore d units h low high =
    let e : Draft = record d { rank = 4; decl = record d.decl { semaphores = d.decl.semaphores ++ units ∷ [] } } in
    let c : d.streams ≡ [] = h.streams (omega arith) in
    record {
      draft = record { rank = omega arith; shared = λ l. absurd (omega arith); barriers = λ l. absurd (omega arith); semaphores = λ l. absurd (omega arith); streams = λ _. c; stream = λ _. h.stream (omega arith) };
      said = declared e (omega arith) (omega arith) c ∙ more_semaphore d.decl units ∙ sym (ap (λ l. l ++ semaphore_statement units ∷ []) (declared d low (omega arith) c));
      rank = refl;
    }

full : (d : Draft) → d.rank ≡ 5 → IsDraft d
full d a = record {
  rank = omega arith;
  shared = λ l. absurd (omega arith);
  barriers = λ l. absurd (omega arith);
  semaphores = λ l. absurd (omega arith);
  streams = λ l. absurd (omega arith);
  stream = λ l. absurd (omega arith);
}

-- the first client, and a further one
pub adds_first_client : (d : Draft) → IsDraft d → 1 ≤ d.rank → d.rank < 5 → Adds d (record d { rank = 5 }) (statement line.Client [] [])
adds_first_client d h low high =
    let e : Draft = record d { rank = 5 } in
    let c : d.streams ≡ [] = h.streams high in
    let s : d.stream ≡ [] = h.stream high in
    record {
      draft = full e refl;
      said = attended e refl ∙ (λ i. decl_statements d.decl ++ (flat_map client_statements (c i) ++ client_statements (s i)))
          ∙ sym (ap (λ l. l ++ statement line.Client [] [] ∷ []) (declared d low high c));
      rank = refl;
    }

pub adds_client : (d : Draft) → d.rank ≡ 5
    → Adds d (record d { streams = d.streams ++ d.stream ∷ []; stream = [] }) (statement line.Client [] [])
adds_client d a =
    let e : Draft = record d { streams = d.streams ++ d.stream ∷ []; stream = [] } in
    record {
      draft = full e a;
      said = attended e a
          ∙ (simp (flat_map-append, append-nil, append_assoc))
          ∙ sym (ap (λ l. l ++ statement line.Client [] [] ∷ []) (attended d a));
      rank = a;
    }

pub adds_command : (d : Draft) (c : Command) → d.rank ≡ 5 → Adds d (record d { stream = d.stream ++ c ∷ [] }) (command_statement c)
adds_command d c a =
    let e : Draft = record d { stream = d.stream ++ c ∷ [] } in
    record {
      draft = full e a;
      said = attended e a
          ∙ (simp (map-append, append_assoc))
          ∙ sym (ap (λ l. l ++ command_statement c ∷ []) (attended d a));
      rank = a;
    }
