use Rattle.std.proofs.Common.{◌∙◌, ℕ, List, [], ap, inl, inr, refl, sym, rules}
use Rattle.rc_base.specs.Outside.Ends.{use_of}
use Rattle.run_words.specs.Lines.{list_fault_lines}
use Rattle.render_core.specs.Due.{work_on}
use Rattle.render_core.specs.Stored.{meaning_in}
use Rattle.render_core.proofs.CarriedOut.{before_filters}
use Rattle.render_core.proofs.Performing.{words_cause}
use Rattle.render_core.proofs.StoredWork.{plain_rules, plain_work, reads}
use Rattle.render_core.proofs.Works.{is_work, seen, seen_some, work_tiles, work_well, work_within}
use Rattle.render_core.proofs.stored.stored_work_for.Goals as goal

pub returns-in-Err : goal.returns-in-Err
returns-in-Err g c = record {
  obtained =
      before_filters _ _ _ _ c.in-Err.refusal (c.in-Err.ensures.refused _ refl) c.in-Err.ensures.early refl
      (λ unread. absurd (unread (reads c.args.job c.requires.stored)));
  later = search rules;
}

pub returns-in-Some : goal.returns-in-Some
returns-in-Some g c = record {
  obtained =
      let source = use_of g.S.Source.left g.S.Source.faults c.args.source.now c.stored_meaning_for.new.source in
      before_filters _ _ _ _ _ (words_cause _ source (meaning_in c.in-Ok.meant) c.in-Ok.ensures.came c.in-Some.limit (sym c.past_of.ensures ∙ c.in-Some.is))
      (inl (inr (inr (inr refl)))) refl (λ unread. absurd (unread (reads c.args.job c.requires.stored)));
  later = search rules;
}

pub returns-in-Ok-list_fault_lines : goal.returns-in-Ok-list_fault_lines
returns-in-Ok-list_fault_lines g c = record {
  obtained =
      let source = use_of g.S.Source.left g.S.Source.faults c.args.source.now c.stored_meaning_for.new.source in
      let meant = c.in-Ok.meant in
      let x = meaning_in meant in
      let came = c.in-Ok.ensures.came in
      let refused = c.in-Ok-list_fault_lines.refused in
      let work = work_on meant.scene refused [] in
      let lines = c.in-Ok-list_fault_lines.ensures ∙ ap list_fault_lines c.as_slice.ensures in
      let is = ap (λ (l : List ℕ). work_on meant.scene l []) lines
      ∙ plain_work c.members_follow.ensures c.chains_follow.ensures meant.scene _ c.args.chain.now.items c.requires.bare c.args.job c.requires.stored meant.faults in
      let asked = sym c.past_of.ensures ∙ c.in-None.is in
      let stays = c.filtered_scenes_stay.ensures in
      record {
        given = record {
          sound = record {
            is_work = is_work _ source x came work is asked;
            well = work_well _ source x came work is stays.well c.requires.ready.tints c.in-Ok.ensures.well;
            within = work_within _ source x came work is stays.within c.in-Ok.ensures.within;
            tiles = work_tiles _ source x came work is asked;
          };
          form = c.requires.stored;
        };
        refused = tt;
        members =
            seen _ source x came _
            (plain_rules c.members_follow.ensures c.chains_follow.ensures meant.scene _ c.args.chain.now.items c.requires.bare c.args.job c.requires.stored);
        unread = λ unread. absurd (unread (reads c.args.job c.requires.stored));
      };
  later = search rules;
}

pub returns-in-Err-list_fault_lines : goal.returns-in-Err-list_fault_lines
returns-in-Err-list_fault_lines g c = record {
  obtained =
      let source = use_of g.S.Source.left g.S.Source.faults c.args.source.now c.stored_meaning_for.new.source in
      record {
        given = tt;
        refused = λ image. inr (refl, refl);
        members = seen_some _ source (meaning_in c.in-Ok.meant) c.in-Ok.ensures.came _ (inl refl);
        unread = λ unread. absurd (unread (reads c.args.job c.requires.stored));
      };
  later = search rules;
}
