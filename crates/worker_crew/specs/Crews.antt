-- What becomes of a crew.
use Rattle.worker_crew.specs.Tasks.{HasEnded, HaveAllEnded}
use Rattle.worker_crew.specs.declared.crew.Crew.{Crew}
use Rattle.worker_crew.specs.declared.task.Task.{Task}

module _ {A B C : Type 0} where
  -- each worker of a crew has ended, as its steps led it
  pub record HaveEnded (A_leads : A → A → Type 0) (A_over : A → Type 0) (B_leads : B → B → Type 0) (B_over : B → Type 0)
      (C_leads : C → C → Type 0) (C_over : C → Type 0)
      (crew : Crew A B C) (tasks : Crew (Task A) (Task B) (Task C)) : Type 0 where
    pub clients : HaveAllEnded A_leads A_over crew.clients.items tasks.clients.items
    pub manager : HasEnded B_leads B_over crew.manager tasks.manager
    pub tiles : HaveAllEnded C_leads C_over crew.tiles.items tasks.tiles.items
