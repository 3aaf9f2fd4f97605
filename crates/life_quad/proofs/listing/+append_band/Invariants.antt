use Rattle.life_quad.proofs.listing.+append_band.Given as goal

abbrev pub decreases-append_band : goal.decreases-append_band
decreases-append_band g l = l.level
