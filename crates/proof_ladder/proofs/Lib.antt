mod PrintedProofs
