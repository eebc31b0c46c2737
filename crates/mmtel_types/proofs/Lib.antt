mod CauseTheorems
