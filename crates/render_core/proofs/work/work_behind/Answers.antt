use Rattle.std.proofs.Common.{◌∙◌, inl, inr, refl, sym}
use Rattle.render_core.proofs.CarriedOut.{before_filters}
use Rattle.render_core.proofs.Performing.{words_cause}
use Rattle.render_core.proofs.Works.{is_work, seen, seen_some, work_tiles, work_well, work_within}
use Rattle.render_core.proofs.work.work_behind.Goals as goal

pub returns-in-Some : goal.returns-in-Some
returns-in-Some g c = λ source came.
    before_filters _ source _ _ _ (words_cause _ source c.args.meant came c.in-Some.limit (sym c.asked_past.ensures ∙ c.in-Some.is))
    (inl (inr (inr (inr refl)))) refl (λ unread. unread)

pub returns-in-Ok : goal.returns-in-Ok
returns-in-Ok g c = λ source came.
    let meant = c.args.meant in
    let work = c.in-Ok.work in
    let is = c.in-Ok.ensures.work in
    let asked = sym c.asked_past.ensures ∙ c.in-None.is in
    let stays = c.filtered_scenes_stay.ensures in
    record {
      given = record {
        is_work = is_work _ source meant came work is asked;
        well = work_well _ source meant came work is stays.well c.requires.ready.tints c.requires.well;
        within = work_within _ source meant came work is stays.within c.requires.within;
        tiles = work_tiles _ source meant came work is asked;
      };
      refused = tt;
      members = seen _ source meant came _ c.in-Ok.ensures.rules;
      unread = λ unread. unread;
    }

pub returns-in-Err : goal.returns-in-Err
returns-in-Err g c = λ source came. record {
  given = tt;
  refused = λ image. inr (refl, refl);
  members = seen_some _ source c.args.meant came _ c.in-Err.ensures.short;
  unread = λ unread. unread;
}
