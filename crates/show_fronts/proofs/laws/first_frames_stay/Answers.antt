use Rattle.show_fronts.proofs.FrontRecords.{first_frames_have_records, fronts_have_their_frames, first_orders_stay, first_frames_stay}
use Rattle.show_fronts.proofs.laws.first_frames_stay.Goals as goal

pub returns-clause-record : goal.returns-clause-record
returns-clause-record c = first_frames_have_records

pub returns-clause-count : goal.returns-clause-count
returns-clause-count c = fronts_have_their_frames

pub returns-clause-orders : goal.returns-clause-orders
returns-clause-orders c = first_orders_stay

pub returns-clause-frames : goal.returns-clause-frames
returns-clause-frames c = first_frames_stay
