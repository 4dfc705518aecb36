use Rattle.npa_choice.proofs.room.has_room.Goals as goal

pub returns-then-room-count_bound : goal.returns-then-room-count_bound
returns-then-room-count_bound c _ o choice = c.count_bound.ensures c.if-room-count_bound.true o choice
