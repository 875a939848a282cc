-- No two scenes say the same: the scene can be told from its statements.
use Rattle.std.proofs.Common.{◌≡◌, ℕ, Bool, true, false, cond, List, [], ◌∷◌, ◌++◌, map, ap, refl, sym, ◌∙◌, append-nil, append_assoc, ℤ, pos, unsigned_abs, Result, Ok}
use Rattle.std.specs.List.{flat_map}
use Rattle.rc_base.specs.declared.command.Command.{Command}
use Rattle.rc_base.specs.declared.command.Command.TheVariants as cmd
use Rattle.rc_base.specs.declared.command.Opcode.{Opcode}
use Rattle.rc_base.specs.declared.scene.Scene.{Scene}
use Rattle.rc_base.specs.declared.scene.TextKind.{TextKind}
use Rattle.rc_base.specs.declared.text.LineName.{LineName}
use Rattle.rc_base.specs.declared.text.LineName.TheVariants as line
use Rattle.rc_base.specs.Numbers.{entry}
use Rattle.command_table.proofs.FieldsAndParts.{command_of_parts, command_again}
use Rattle.rc_base.specs.Formats.Commands.{opcode_of}
use Rattle.scene_text.specs.Text.Read.{SpellsText}
use Rattle.scene_text.specs.Text.Statements.{Statement, statement, command_statement, window_statement, shared_statement, barrier_statement, semaphore_statement, client_statements, scene_statements}

-- ---- commands

abbrev natural : List ℤ → ℕ → ℕ
natural zs i = unsigned_abs (entry zs i)

abbrev naturals : List ℤ → List ℕ
naturals zs = map unsigned_abs zs

naturals_of : (ns : List ℕ) → naturals (map pos ns) ≡ ns
naturals_of [] = refl
naturals_of (n ∷ ns) = ap (λ l. n ∷ l) (naturals_of ns)

abbrev said : Statement → LineName → Command
said s (line.Command o) = command_of_parts o s.numbers s.texels
said s line.Scene = cmd.Swap
said s line.Shared = cmd.Swap
said s line.Barrier = cmd.Swap
said s line.Semaphore = cmd.Swap
said s line.Client = cmd.Swap

-- ---- streams: the commands before the next client, and the further clients

record Streams : Type 0 where
  current : List Command
  closed : List (List Command)

abbrev next_said : Statement → LineName → Streams → Streams
next_said s line.Client r = record { current = []; closed = r.current ∷ r.closed }
next_said s (line.Command o) r = record { current = said s (line.Command o) ∷ r.current; closed = r.closed }
next_said s line.Scene r = r
next_said s line.Shared r = r
next_said s line.Barrier r = r
next_said s line.Semaphore r = r

abbrev streams_said : List Statement → Streams
streams_said [] = record { current = []; closed = [] }
streams_said (s ∷ ss) = next_said s s.name (streams_said ss)

commands_again : (cs : List Command) (rest : List Statement) → streams_said (map command_statement cs ++ rest)
    ≡ record { current = cs ++ (streams_said rest).current; closed = (streams_said rest).closed }
commands_again [] rest = refl
commands_again (c ∷ cs) rest =
    ap (next_said (command_statement c) (line.Command (opcode_of c))) (commands_again cs rest)
    ∙ ap (λ x. record { current = x ∷ (cs ++ (streams_said rest).current); closed = (streams_said rest).closed }) (command_again c)

streams_again : (css : List (List Command)) → streams_said (flat_map client_statements css) ≡ record { current = []; closed = css }
streams_again [] = refl
streams_again (cs ∷ css) =
    ap (next_said (statement line.Client [] []) line.Client)
    (commands_again cs (flat_map client_statements css) ∙ ap (λ r. record { current = cs ++ r.current; closed = r.closed }) (streams_again css)
    ∙ ap (λ l. record { current = l; closed = css }) (append-nil cs))

-- statements of a declaration say nothing of streams
abbrev IsQuiet : LineName → Type 0
IsQuiet line.Client = ⊥
IsQuiet (line.Command o) = ⊥
IsQuiet line.Scene = Unit {0}
IsQuiet line.Shared = Unit {0}
IsQuiet line.Barrier = Unit {0}
IsQuiet line.Semaphore = Unit {0}

quiet_said : (s : Statement) (n : LineName) (r : Streams) → IsQuiet n → next_said s n r ≡ r
quiet_said s line.Client r h = absurd h
quiet_said s (line.Command o) r h = absurd h
quiet_said s line.Scene r h = refl
quiet_said s line.Shared r h = refl
quiet_said s line.Barrier r h = refl
quiet_said s line.Semaphore r h = refl

quiet : {A : Type 0} (f : A → Statement) → ((x : A) → IsQuiet (f x).name) → (xs : List A) (rest : List Statement) → streams_said (map f xs ++ rest) ≡ streams_said rest
quiet f q [] rest = refl
quiet f q (x ∷ xs) rest = quiet_said (f x) (f x).name (streams_said (map f xs ++ rest)) (q x) ∙ quiet f q xs rest

streams_of : (s : Scene) → (streams_said (scene_statements s)).closed ≡ s.streams
streams_of s =
    let clients = flat_map client_statements s.streams in
    let a = map shared_statement s.decl.shared in
    let b = map barrier_statement s.decl.barriers in
    let u = map semaphore_statement s.decl.semaphores in
    ap (λ l. (streams_said l).closed) (append_assoc a (b ++ u) clients ∙ ap (λ l. a ++ l) (append_assoc b u clients))
    ∙ ap (λ r. r.closed) (quiet shared_statement (λ _. tt) s.decl.shared (b ++ (u ++ clients))
    ∙ quiet barrier_statement (λ _. tt) s.decl.barriers (u ++ clients)
    ∙ quiet semaphore_statement (λ _. tt) s.decl.semaphores clients
    ∙ streams_again s.streams)

-- ---- what is declared: the statements of one name

abbrev is_shared : LineName → Bool
is_shared line.Scene = false
is_shared line.Shared = true
is_shared line.Barrier = false
is_shared line.Semaphore = false
is_shared line.Client = false
is_shared (line.Command o) = false

abbrev is_barrier : LineName → Bool
is_barrier line.Scene = false
is_barrier line.Shared = false
is_barrier line.Barrier = true
is_barrier line.Semaphore = false
is_barrier line.Client = false
is_barrier (line.Command o) = false

abbrev is_semaphore : LineName → Bool
is_semaphore line.Scene = false
is_semaphore line.Shared = false
is_semaphore line.Barrier = false
is_semaphore line.Semaphore = true
is_semaphore line.Client = false
is_semaphore (line.Command o) = false

abbrev named : (LineName → Bool) → List Statement → List Statement
named p [] = []
named p (s ∷ ss) = cond (p s.name) (s ∷ named p ss) (named p ss)

named_all : {A : Type 0} (p : LineName → Bool) (f : A → Statement) → ((x : A) → p (f x).name ≡ true) → (xs : List A) (rest : List Statement)
    → named p (map f xs ++ rest) ≡ map f xs ++ named p rest
named_all p f h [] rest = refl
named_all p f h (x ∷ xs) rest =
    ap (λ b. cond b (f x ∷ named p (map f xs ++ rest)) (named p (map f xs ++ rest))) (h x) ∙ ap (λ l. f x ∷ l) (named_all p f h xs rest)

named_none : {A : Type 0} (p : LineName → Bool) (f : A → Statement) → ((x : A) → p (f x).name ≡ false) → (xs : List A) (rest : List Statement)
    → named p (map f xs ++ rest) ≡ named p rest
named_none p f h [] rest = refl
named_none p f h (x ∷ xs) rest =
    ap (λ b. cond b (f x ∷ named p (map f xs ++ rest)) (named p (map f xs ++ rest))) (h x) ∙ named_none p f h xs rest

named_clients : (p : LineName → Bool) → p line.Client ≡ false → ((o : Opcode) → p (line.Command o) ≡ false) → (css : List (List Command))
    → named p (flat_map client_statements css) ≡ []
named_clients p h k [] = refl
named_clients p h k (cs ∷ css) =
    let rest = map command_statement cs ++ flat_map client_statements css in
    ap (λ b. cond b (statement line.Client [] [] ∷ named p rest) (named p rest)) h
    ∙ named_none p command_statement (λ c. k (opcode_of c)) cs (flat_map client_statements css)
    ∙ named_clients p h k css

-- a declaration and its streams, one part after the other
parts : (s : Scene) → scene_statements s ≡ window_statement s.decl ∷ (map shared_statement s.decl.shared
    ++ (map barrier_statement s.decl.barriers ++ (map semaphore_statement s.decl.semaphores ++ flat_map client_statements s.streams)))
parts s =
    let clients = flat_map client_statements s.streams in
    let a = map shared_statement s.decl.shared in
    let b = map barrier_statement s.decl.barriers in
    let u = map semaphore_statement s.decl.semaphores in
    ap (λ l. window_statement s.decl ∷ l) (append_assoc a (b ++ u) clients ∙ ap (λ l. a ++ l) (append_assoc b u clients))

map_back : {A : Type 0} (f : A → Statement) (g : Statement → A) → ((x : A) → g (f x) ≡ x) → (xs : List A) → map g (map f xs ++ []) ≡ xs
map_back f g h [] = refl
map_back f g h (x ∷ xs) = λ i. h x i ∷ map_back f g h xs i

shared_of : (s : Scene) → map (λ x. naturals x.numbers) (named is_shared (scene_statements s)) ≡ s.decl.shared
shared_of s =
    let clients = flat_map client_statements s.streams in
    let b = map barrier_statement s.decl.barriers in
    let u = map semaphore_statement s.decl.semaphores in
    ap (λ l. map (λ x. naturals x.numbers) (named is_shared l)) (parts s)
    ∙ ap (map (λ x. naturals x.numbers))
    (named_all is_shared shared_statement (λ _. refl) s.decl.shared (b ++ (u ++ clients))
    ∙ ap (λ l. map shared_statement s.decl.shared ++ l)
    (named_none is_shared barrier_statement (λ _. refl) s.decl.barriers (u ++ clients)
    ∙ named_none is_shared semaphore_statement (λ _. refl) s.decl.semaphores clients
    ∙ named_clients is_shared refl (λ _. refl) s.streams))
    ∙ map_back shared_statement (λ x. naturals x.numbers) (λ size. naturals_of size) s.decl.shared

barriers_of : (s : Scene) → map (λ x. natural x.numbers 0) (named is_barrier (scene_statements s)) ≡ s.decl.barriers
barriers_of s =
    let clients = flat_map client_statements s.streams in
    let b = map barrier_statement s.decl.barriers in
    let u = map semaphore_statement s.decl.semaphores in
    ap (λ l. map (λ x. natural x.numbers 0) (named is_barrier l)) (parts s)
    ∙ ap (map (λ x. natural x.numbers 0))
    (named_none is_barrier shared_statement (λ _. refl) s.decl.shared (b ++ (u ++ clients))
    ∙ named_all is_barrier barrier_statement (λ _. refl) s.decl.barriers (u ++ clients)
    ∙ ap (λ l. map barrier_statement s.decl.barriers ++ l)
    (named_none is_barrier semaphore_statement (λ _. refl) s.decl.semaphores clients
    ∙ named_clients is_barrier refl (λ _. refl) s.streams))
    ∙ map_back barrier_statement (λ x. natural x.numbers 0) (λ _. refl) s.decl.barriers

semaphores_of : (s : Scene) → map (λ x. natural x.numbers 0) (named is_semaphore (scene_statements s)) ≡ s.decl.semaphores
semaphores_of s =
    let clients = flat_map client_statements s.streams in
    let b = map barrier_statement s.decl.barriers in
    let u = map semaphore_statement s.decl.semaphores in
    ap (λ l. map (λ x. natural x.numbers 0) (named is_semaphore l)) (parts s)
    ∙ ap (map (λ x. natural x.numbers 0))
    (named_none is_semaphore shared_statement (λ _. refl) s.decl.shared (b ++ (u ++ clients))
    ∙ named_none is_semaphore barrier_statement (λ _. refl) s.decl.barriers (u ++ clients)
    ∙ named_all is_semaphore semaphore_statement (λ _. refl) s.decl.semaphores clients
    ∙ ap (λ l. map semaphore_statement s.decl.semaphores ++ l) (named_clients is_semaphore refl (λ _. refl) s.streams))
    ∙ map_back semaphore_statement (λ x. natural x.numbers 0) (λ _. refl) s.decl.semaphores

abbrev first_numbers : List Statement → List ℤ
first_numbers [] = []
first_numbers (s ∷ ss) = s.numbers

-- two scenes that say the same are one
pub same_scene : (s t : Scene) → scene_statements s ≡ scene_statements t → s ≡ t
same_scene s t e =
    let n : first_numbers (scene_statements s) ≡ first_numbers (scene_statements t) = ap first_numbers e in
    let version : s.decl.version ≡ t.decl.version = ap (λ zs. natural zs 0) n in
    let width : s.decl.width ≡ t.decl.width = ap (λ zs. natural zs 1) n in
    let height : s.decl.height ≡ t.decl.height = ap (λ zs. natural zs 2) n in
    let shared : s.decl.shared ≡ t.decl.shared =
    sym (shared_of s) ∙ ap (λ l. map (λ x. naturals x.numbers) (named is_shared l)) e ∙ shared_of t in
    let barriers : s.decl.barriers ≡ t.decl.barriers =
    sym (barriers_of s) ∙ ap (λ l. map (λ x. natural x.numbers 0) (named is_barrier l)) e ∙ barriers_of t in
    let semaphores : s.decl.semaphores ≡ t.decl.semaphores =
    sym (semaphores_of s) ∙ ap (λ l. map (λ x. natural x.numbers 0) (named is_semaphore l)) e ∙ semaphores_of t in
    let streams : s.streams ≡ t.streams = sym (streams_of s) ∙ ap (λ l. (streams_said l).closed) e ∙ streams_of t in
    λ i. record {
      decl = record { version = version i; width = width i; height = height i; shared = shared i; barriers = barriers i; semaphores = semaphores i };
      streams = streams i;
    }

abbrev said_ok : Statement → Result Statement TextKind
said_ok x = Ok x

same_oks : (xs ys : List Statement) → map said_ok xs ≡ map said_ok ys → xs ≡ ys
same_oks [] [] h = refl
same_oks [] (y ∷ ys) h = absurd (cc)
same_oks (x ∷ xs) [] h = absurd (cc)
same_oks (x ∷ xs) (y ∷ ys) h = let one : x ≡ y = cc in let rest : xs ≡ ys = same_oks xs ys (cc) in λ i. one i ∷ rest i

-- no text spells two scenes
pub one_scene : (text : List ℕ) (s t : Scene) → SpellsText text s → SpellsText text t → s ≡ t
one_scene text s t h k = same_scene s t (same_oks (scene_statements s) (scene_statements t) (sym h.says ∙ k.says))
