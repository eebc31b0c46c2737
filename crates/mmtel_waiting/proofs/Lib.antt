mod HoldTheorems
