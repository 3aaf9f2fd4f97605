use Rattle.life_sweep.proofs.column.Rows.take_column.Goals as goal

pub returns-clause-below : goal.returns-clause-below
returns-clause-below c bound positive h =
    let n = c.take-north.ensures.below bound positive h.north in
    let e = c.take-here.ensures.below bound positive h.here in
    let s = c.take-south.ensures.below bound positive h.south in
    (record { north = n.0; here = e.0; south = s.0 }, record { north = n.1; here = e.1; south = s.1 })
